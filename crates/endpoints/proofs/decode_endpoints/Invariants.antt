-- After i turns the list is that of i partitions.
use Rattle.std.proofs.Common.{◌≡◌}
use Rattle.endpoints.specs.Endpoints.{count_to, endpoints_list}
use Rattle.endpoints.proofs.decode_endpoints.Given as goal

abbrev pub invariant-loop-i : goal.invariant-loop-i
invariant-loop-i l = record {
  values : l.k ≡ count_to l.modes l.i;
  partitions : l.out ≡ endpoints_list l.i l.modes l.ev;
}

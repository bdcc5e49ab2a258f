-- After i turns the list is that of i partitions.
use Rattle.std.proofs.Common.{◌≡◌, refl, ◌∙◌, arith, rules}
use Rattle.endpoints_colours.specs.Colours.{nothing}
use Rattle.endpoints.specs.Endpoints.{count_to, endpoints_list, partition_endpoints}
use Rattle.endpoints.specs.EndpointLaws.{count_next, starts-early, one_more}
use Rattle.endpoints.proofs.decode_endpoints.Goals as goal

pub loop-i-init : goal.loop-i-init
unfolding count_to endpoints_list partition_endpoints
loop-i-init c =
    let e : c.default-out.result ≡ nothing = search rules in
    record { values = refl; partitions = rw e }

-- the values of the partition at hand end before the eighteenth
pub values_at-requires : goal.values_at-requires
values_at-requires c = omega (arith, c.loop-i.invariant.values, starts-early c.args.modes c.loop-i.i c.args.parts (omega arith) c.requires.parts_bound)

pub overflow_add-k : goal.overflow_add-k
overflow_add-k c =
    omega (arith, c.loop-i.invariant.values, starts-early c.args.modes c.loop-i.i c.args.parts (omega arith) c.requires.parts_bound)

pub loop-i-preserved : goal.loop-i-preserved
loop-i-preserved c =
    let l = c.loop-i in
    let a = c.args in
    record {
      values = rw (c.values_of-k.ensures, l.invariant.values, count_next a.modes l.i);
      partitions = rw l.invariant.partitions (one_more a.modes a.ev.now _ l.i (omega arith) (c.decode_mode.ensures ∙ rw (c.values_at.ensures, l.invariant.values)));
    }

-- `texels_samples::put_samples` meets its contract: the samples of each channel are the definition's. Assumes nothing.
use mathlib.Core.Path.{ap}
use native.Mathlib.Omega.{arith}
use Rattle.texels.specs.declared.Starts.{Starts}
use Rattle.texels_samples.specs.PlaneLaws.{bounded, channel-put, all-put}
use Rattle.texels_samples.proofs.put_samples.Goals as goal

pub put_channel-requires : goal.put_channel-requires
put_channel-requires c = record { place = (omega arith, c.starts_of-k.ensures.1.r); ends = bounded c.args.d.now.endpoints 0 _ c.pairs_of.ensures (omega arith) c.args.d.now.given.within }

pub put_channel-requires-2 : goal.put_channel-requires-2
put_channel-requires-2 c = record { place = (omega arith, c.starts_of-k.ensures.1.g); ends = bounded c.args.d.now.endpoints 1 _ c.pairs_of-2.ensures (omega arith) c.args.d.now.given.within }

pub put_channel-requires-3 : goal.put_channel-requires-3
put_channel-requires-3 c = record { place = (omega arith, c.starts_of-k.ensures.1.b); ends = bounded c.args.d.now.endpoints 2 _ c.pairs_of-3.ensures (omega arith) c.args.d.now.given.within }

pub put_channel-requires-4 : goal.put_channel-requires-4
put_channel-requires-4 c = record { place = (omega arith, c.starts_of-k.ensures.1.a); ends = bounded c.args.d.now.endpoints 3 _ c.pairs_of-4.ensures (omega arith) c.args.d.now.given.within }

pub returns : goal.returns
returns c =
    let k = c.starts_of-k.ensures.0 in
    let put = channel-put _ _ c.args.d.now.planes c.args.d.now.channel c.args.d.now.endpoints c.args.d.now.weights.now c.args.d.now.partition.now c.args.d.now.given in
    all-put _ _ c.args.d.now.planes c.args.d.now.channel c.args.d.now.endpoints c.args.d.now.weights.now c.args.d.now.partition.now c.args.d.now.given _ _ _ _ _
    (put 0 0 _ _ _ _ c.pairs_of.ensures (ap (λ (z : Starts). z.r) k) c.put_channel.ensures)
    (put 1 144 _ _ _ _ c.pairs_of-2.ensures (ap (λ (z : Starts). z.g) k) c.put_channel-2.ensures)
    (put 2 288 _ _ _ _ c.pairs_of-3.ensures (ap (λ (z : Starts). z.b) k) c.put_channel-3.ensures)
    (put 3 432 _ _ _ _ c.pairs_of-4.ensures (ap (λ (z : Starts). z.a) k) c.put_channel-4.ensures)

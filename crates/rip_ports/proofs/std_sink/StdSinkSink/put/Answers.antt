use Rattle.std.proofs.Common.{◌≡◌, ℕ, ◌-◌, List, length, arith, drop, length-drop, length-take, take}
use Rattle.std.proofs.KnownBytes.{Appends-trans}
use Rattle.std.proofs.lemmas.Grind.{common_steps}
use lib.Seq.{take-add}
use Rattle.rip_ports.proofs.std_sink.StdSinkSink.put.Goals as goal

-- what `&bytes[done..]` reads
rest_of : (done : ℕ) (bytes : List ℕ) → take (length bytes - done) (drop done bytes) ≡ drop done bytes
rest_of done bytes = grind (arith, common_steps)

pub loop-done-preserved : goal.loop-done-preserved
loop-done-preserved g c =
    let contents = g.W.Write.contents in
    let added = rw rest_of at c.in_ok-done.ensures.passed in
    let joined = Appends-trans (contents c.args.self.now.device) (contents c.loop-done.self.device) (contents c.write.new.self.device) _ _ c.loop-done.invariant.2 added in
    (omega (arith, c.in_ok-done.ensures.within, length-take {A = ℕ}, length-drop {A = ℕ}), omega arith, rw take-add joined)

use Rattle.std.proofs.Common.{◌≤◌, ◌++◌, ap, ◌∙◌, inl, inr, arith, length}
use Rattle.std.proofs.lemmas.List.{take_rest}
use Rattle.dump_text.specs.Keys as spec
use Rattle.dump_text.proofs.Merging.{ended}
use Rattle.dump_text.proofs.keys.merged.Goals as goal
use Rattle.dump_text.proofs.keys.merged.Goals.{then-pairs-test+else-second-now, else-pairs-test}

pub returns : goal.returns
returns c = elim c.pairs-test.branch [
  | then-pairs-test+else-second-now w ↦
      ended c.args.before.now c.args.now.now c.pairs.first c.pairs.second c.pairs.keys c.push_keys.new.keys c.push_keys-2.new.keys (spec.merged c.args.before.now c.args.now.now)
      (inr (omega (arith, w.if-second-now))) c.pairs.invariant.2 (c.in_ok-push_keys.ensures ∙ ap (λ s. c.pairs.keys ++ s) (take_rest c.args.before.now c.pairs.first))
      (c.in_ok-push_keys-2.ensures ∙ ap (λ s. c.push_keys.new.keys ++ s) (take_rest c.args.now.now c.pairs.second))
  | else-pairs-test w ↦
      ended c.args.before.now c.args.now.now c.pairs.first c.pairs.second c.pairs.keys c.push_keys.new.keys c.push_keys-2.new.keys (spec.merged c.args.before.now c.args.now.now)
      (inl (omega (arith, w.pairs-test))) c.pairs.invariant.2 (c.in_ok-push_keys.ensures ∙ ap (λ s. c.pairs.keys ++ s) (take_rest c.args.before.now c.pairs.first))
      (c.in_ok-push_keys-2.ensures ∙ ap (λ s. c.push_keys.new.keys ++ s) (take_rest c.args.now.now c.pairs.second))
]

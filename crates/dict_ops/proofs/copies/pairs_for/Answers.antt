use Rattle.std.proofs.Common.{◌≡◌, Some, slice_get, sym, ap, ◌∙◌}
use Rattle.ps_objects.specs.declared.place.Loc.TheVariants as loc
use Rattle.ps_memory.specs.Memory.{value_at}
use Rattle.ps_meaning.specs.Answer.{looked_in}
use Rattle.dict_ops.proofs.Copying.{copy_refused}
use Rattle.dict_ops.proofs.copies.pairs_for.Goals as goal

pub returns-in-Err-clause-told : goal.returns-in-Err-clause-told
returns-in-Err-clause-told g c =
    let log = g.M.Mem.log in
    let k = c.in_ok-key.key in
    let same : c.in_ok-copy.field-0 ≡ k = c.in_ok-copy.ensures in
    let here : slice_get c.args.keys.now c.loop-at.at ≡ Some k = c.at.ensures ∙ ap Some (sym c.in_ok-key.ensures) in
    sym c.loop-at.invariant.told
    ∙ copy_refused c.args.target c.args.dict c.args.keys.now c.loop-at.at k c.loop-at.pairs (log c.loop-at.mem) here c.in_ok-found.found (log c.look_entry.new.mem) c.in-Err.error
    (ap (λ j. value_at (log c.loop-at.mem).view (loc.Entry c.args.dict j)) (sym same) ∙ c.in_ok-found.ensures.value)
    (c.in_ok-found.ensures.looked ∙ ap (λ j. looked_in (log c.loop-at.mem) (loc.Entry c.args.dict j)) same)
    (sym c.in-Err.ensures)

use Rattle.std.proofs.Common.{◌≡◌, ◌+◌, ◌<◌, ◌∙◌, sym, ap, Some, get_or, set, length, length-set, sum_by, arith}
use Rattle.std.proofs.lemmas.List.{get_or_default}
use Rattle.commit_desk.specs.Slots.{piece_in, event_count}
use Rattle.commit_desk.specs.declared.slot.Slot.TheVariants.{Vacant, Emptied}
use Rattle.commit_desk.proofs.Steps.{kept_of, pieces, take_step, event_counts_le, event_counts-set, filled_is}
use Rattle.commit_desk.proofs.desk.Desk.take.Goals as goal

pub push_reserved-requires : goal.push_reserved-requires
push_reserved-requires g c =
    let old = c.args.self.now in
    let within : c.args.page < length old.slots.items = omega (arith, old.slot_count, old.within) in
    let lies : piece_in (get_or old.slots.items c.args.page Vacant) ≡ Some c.in_ok-piece.piece =
    ap piece_in (get_or_default old.slots.items c.args.page Vacant c.index_mut.result.now within ∙ sym c.index_mut.ensures.value) ∙ sym c.in_ok-piece.ensures.answer in
    let filled = filled_is _ _ lies in
    let more = event_counts-set old.slots.items c.args.page Emptied within (sym (ap (λ n. n + 1) filled.2)) in
    omega (arith, old.event_counts, more, event_counts_le (set old.slots.items c.args.page Emptied), length-set old.slots.items c.args.page Emptied, old.slot_count, old.room, old.within, old.behind)

pub invariant_of-self-2 : goal.invariant_of-self-2
invariant_of-self-2 g c =
    let old = c.args.self.now in
    let within : c.args.page < length old.slots.items = omega (arith, old.slot_count, old.within) in
    let lies : piece_in (get_or old.slots.items c.args.page Vacant) ≡ Some c.in_ok-piece.piece =
    ap piece_in (get_or_default old.slots.items c.args.page Vacant c.index_mut.result.now within ∙ sym c.index_mut.ensures.value) ∙ sym c.in_ok-piece.ensures.answer in
    let filled = filled_is _ _ lies in
    let emptied = c.in_ok-piece.ensures.some in
    let more = ap (λ x. sum_by event_count (set old.slots.items c.args.page x)) emptied ∙ event_counts-set old.slots.items c.args.page Emptied within (sym (ap (λ n. n + 1) filled.2)) in
    let k = take_step old.ahead old.claimed old.committed c.args.page c.take.new.self old.slots.items old.history.items c.push_reserved.new.self.items (kept_of old)
    within emptied filled.0 filled.1 c.push_reserved.ensures.items in
    record {
      legal = k.legal;
      claims = k.claims;
      commits = k.commits;
      pieces = pieces _ _ _ _ _ k;
      within = old.within;
      behind = old.behind;
      claimed_pages = k.claimed_pages;
      finished_pages = k.finished_pages;
      taken_pages = k.taken_pages;
      slot_count = old.slot_count;
      event_counts = omega (arith, old.event_counts, c.push_reserved.ensures.len, more);
      room = omega (arith, old.room, c.push_reserved.ensures.capacity);
    }

use Rattle.std.proofs.Common.{◌≡◌, ◌+◌, ◌<◌, ◌∙◌, sym, ap, false, get_or, set, length, length-set, arith}
use Rattle.std.proofs.lemmas.List.{get_or_default}
use Rattle.commit_desk.specs.Slots.{is_finished}
use Rattle.commit_desk.specs.declared.slot.Slot.TheVariants.{Vacant, Filled}
use Rattle.commit_desk.proofs.Steps.{kept_of, pieces, finish_step, event_counts_le, event_counts-set, vacant_counts}
use Rattle.commit_desk.proofs.desk.Desk.finish.Goals as goal

pub push_reserved-requires : goal.push_reserved-requires
push_reserved-requires g c =
    let old = c.args.self.now in
    let filled = Filled c.args.piece in
    let within : c.args.page < length old.slots.items = omega (arith, old.slot_count, old.within) in
    let vacant : is_finished (get_or old.slots.items c.args.page Vacant) ≡ false =
    ap is_finished (get_or_default old.slots.items c.args.page Vacant c.index.result.now within ∙ sym c.index.ensures) ∙ sym c.if-is_finished.ensures in
    let more = event_counts-set old.slots.items c.args.page filled within (sym (ap (λ n. n + 1) (vacant_counts _ vacant))) in
    omega (arith, old.event_counts, more, event_counts_le (set old.slots.items c.args.page filled), length-set old.slots.items c.args.page filled, old.slot_count, old.room, old.within, old.behind)

pub invariant_of-self : goal.invariant_of-self
invariant_of-self g c =
    let old = c.args.self.now in
    let within : c.args.page < length old.slots.items = omega (arith, old.slot_count, old.within) in
    let vacant : is_finished (get_or old.slots.items c.args.page Vacant) ≡ false =
    ap is_finished (get_or_default old.slots.items c.args.page Vacant c.index.result.now within ∙ sym c.index.ensures) ∙ sym c.if-is_finished.ensures in
    let more = event_counts-set old.slots.items c.args.page (Filled c.args.piece) within (sym (ap (λ n. n + 1) (vacant_counts _ vacant))) in
    let k = finish_step old.ahead old.claimed old.committed c.args.page c.args.piece old.slots.items old.history.items c.push_reserved.new.self.items (kept_of old)
    (omega arith) (omega arith) within vacant c.push_reserved.ensures.items in
    record {
      legal = k.legal;
      claims = k.claims;
      commits = k.commits;
      pieces = pieces _ _ _ _ _ k;
      within = old.within;
      behind = old.behind;
      claimed_pages = k.claimed_pages;
      finished_pages = k.finished_pages;
      taken_pages = k.taken_pages;
      slot_count = old.slot_count;
      event_counts = omega (arith, old.event_counts, c.push_reserved.ensures.len, more);
      room = omega (arith, old.room, c.push_reserved.ensures.capacity);
    }

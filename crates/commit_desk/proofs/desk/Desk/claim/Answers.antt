use Rattle.std.proofs.Common.{arith}
use Rattle.commit_desk.proofs.Steps.{kept_of, pieces, claim_step, event_counts_le}
use Rattle.commit_desk.proofs.desk.Desk.claim.Goals as goal

pub push_reserved-requires : goal.push_reserved-requires
push_reserved-requires g c =
    let old = c.args.self.now in
    omega (arith, old.event_counts, event_counts_le old.slots.items, old.slot_count, old.room, old.within, old.behind)

pub invariant_of-self : goal.invariant_of-self
invariant_of-self g c =
    let old = c.args.self.now in
    let k = claim_step old.ahead old.claimed old.committed old.slots.items old.history.items c.push_reserved.new.self.items (kept_of old) (omega arith) c.push_reserved.ensures.items in
    record {
      legal = k.legal;
      claims = k.claims;
      commits = k.commits;
      pieces = pieces _ _ _ _ _ k;
      within = omega arith;
      behind = omega (arith, old.behind);
      claimed_pages = k.claimed_pages;
      finished_pages = k.finished_pages;
      taken_pages = k.taken_pages;
      slot_count = old.slot_count;
      event_counts = omega (arith, old.event_counts, c.push_reserved.ensures.len);
      room = omega (arith, old.room, c.push_reserved.ensures.capacity);
    }

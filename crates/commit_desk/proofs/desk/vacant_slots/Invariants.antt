use Rattle.std.proofs.Common.{◌≡◌, ◌≤◌, ℕ, get_or, vec_len, vec_capacity, sum_by}
use Rattle.commit_desk.specs.Slots.{event_count}
use Rattle.commit_desk.specs.declared.slot.Slot.TheVariants.{Vacant}
use Rattle.commit_desk.proofs.desk.vacant_slots.Given as goal

abbrev pub invariant-loop : goal.invariant-loop
invariant-loop g l = record {
  len : vec_len l.slots ≡ l.counter;
  room : l.count ≤ vec_capacity l.slots;
  vacant : (p : ℕ) → get_or l.slots.items p Vacant ≡ Vacant;
  events : sum_by event_count l.slots.items ≡ 0;
}

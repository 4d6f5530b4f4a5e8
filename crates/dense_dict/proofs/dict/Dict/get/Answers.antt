use Rattle.std.proofs.Common.{slice_get, option_map, sym, ap, ◌∙◌}
use Rattle.std.specs.FinMap.{find, get}
use Rattle.ps_memory.specs.Order.{key_cmp}
use Rattle.dense_dict.proofs.Search.{Entry}
use Rattle.dense_dict.proofs.Seats.{seat_found, seat_missing}
use Rattle.dense_dict.proofs.dict.Dict.get.Goals as goal

pub returns-in-Some : goal.returns-in-Some
returns-in-Some c =
    c.seat_at.ensures ∙ ap (λ es. option_map (λ (e : Entry). e.1) (slice_get es c.in-Some.place)) c.deref-in-Some.ensures.value
    ∙ seat_found c.self.inside.entries.items c.in-Some.place c.args.key.now c.self.invariant.unique
    (sym (ap (λ es. option_map (λ (e : Entry). e.0) (slice_get es c.in-Some.place)) c.deref.ensures.value) ∙ c.in-Some.ensures)
    ∙ ap (λ m. get m c.args.key.now) c.self.view_is

pub returns-in-None : goal.returns-in-None
returns-in-None c = seat_missing c.self.inside.entries.items c.args.key.now (sym (ap (find key_cmp c.args.key.now) c.deref.ensures.value) ∙ c.in-None.ensures) ∙ ap (λ m. get m c.args.key.now) c.self.view_is

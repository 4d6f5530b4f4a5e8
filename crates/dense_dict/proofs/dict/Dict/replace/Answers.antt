use Rattle.std.proofs.Common.{slice_get, option_map, sym, ap, ◌∙◌}
use Rattle.std.specs.FinMap.{find}
use Rattle.ps_memory.specs.Order.{key_cmp}
use Rattle.dense_dict.specs.Dict.{over_seat}
use Rattle.dense_dict.proofs.Search.{Entry}
use Rattle.dense_dict.proofs.Seats.{still_indexed, replaced, not_replaced}
use Rattle.dense_dict.proofs.dict.Dict.replace.Goals as goal

pub invariant_of-self : goal.invariant_of-self
invariant_of-self c = still_indexed c.self.inside.index c.self.inside.entries.items c.put_object.new.entries.items c.in-Some.place c.args.object c.self.invariant c.put_object.ensures

pub returns-in-Some : goal.returns-in-Some
returns-in-Some c =
    replaced c.self.inside.entries.items c.put_object.new.entries.items c.in-Some.place c.args.key.now c.args.object c.self.invariant.unique
    (sym (ap (λ es. option_map (λ (e : Entry). e.0) (slice_get es c.in-Some.place)) c.deref.ensures.value) ∙ c.in-Some.ensures) c.put_object.ensures
    ∙ ap (over_seat c.args.key.now c.args.object) c.self.view_is

pub returns-in_default : goal.returns-in_default
returns-in_default c =
    sym c.self.view_is ∙ not_replaced c.self.inside.entries.items c.args.key.now c.args.object (sym (ap (find key_cmp c.args.key.now) c.deref.ensures.value) ∙ c.in_default.ensures)
    ∙ ap (over_seat c.args.key.now c.args.object) c.self.view_is

-- What glances tell.
use Rattle.std.proofs.Common.{◌≡◌, true, List, Some, option_map, Ok, sym, ap, ◌∙◌, subst}
use Rattle.ps_objects.specs.declared.cell.Cell.{Cell}
use Rattle.ps_objects.specs.declared.key.Key.{Key}
use Rattle.ps_objects.specs.declared.object.Object.{Object}
use Rattle.ps_objects.specs.declared.objects.Interval.{Interval}
use Rattle.ps_objects.specs.declared.place.Loc.{Loc}
use Rattle.ps_objects.specs.declared.place.Loc.TheVariants as loc
use Rattle.ps_objects.specs.declared.place.Value.{Value}
use Rattle.ps_objects.specs.declared.place.Value.TheVariants as value
use Rattle.ps_memory.specs.Memory.{value_at}
use Rattle.ps_meaning.specs.Answer.{Log, looked_in}
use Rattle.ps_meaning.proofs.Looks.{second_look_law}
use Rattle.ps_execution.specs.Objects.{item_in}
use Rattle.ps_operator.specs.Keys.{seek, find}
use Rattle.ps_operator.specs.Looks.{or_absent}
use Rattle.ps_operator.specs.Standing.{is_array}
use Rattle.ps_operator.specs.Tree.{reads}
use Rattle.ps_operator.specs.declared.search.Sought.{Sought}
use Rattle.ps_operator.proofs.LookSteps.{sought_told, sought_other}
use Rattle.vm_mem.specs.Glances.{glance_at, object_told}
use Rattle.vm_mem.specs.declared.glance.Glance.{Glance}
use Rattle.vm_mem.proofs.Glances.{object_is}
use Rattle.ps_steps.specs.Met.{object_of}
use Rattle.ps_steps.specs.declared.met.Met.{Met}

told_item : (v : Value) (y : Object) → object_told (glance_at v) ≡ Some y → item_in v ≡ y
told_item (value.Object x) y h = object_is x y h
told_item value.Absent y h = absurd cc
told_item (value.Byte n) y h = absurd cc
told_item (value.Access a) y h = absurd cc
told_item (value.Keys ks) y h = absurd cc
told_item (value.Rand n) y h = absurd cc
told_item (value.Paper p) y h = absurd cc

pub item_told : (v : Value) (g : Glance) (m : Met) → g ≡ glance_at v → option_map object_of (Some m) ≡ object_told g → object_of m ≡ item_in v
item_told v g m e h = sym (told_item v (object_of m) (sym (ap object_told e) ∙ sym h))

pub item_still : (log there : Log) (l : Loc) (a : Interval) → there ≡ looked_in log l → is_array log.view a ≡ true → is_array there.view a ≡ true
item_still log there l a e h = subst (λ (k : Log). is_array k.view a ≡ true) (sym e) h

pub item_looked : (log there : Log) (l at : Loc) (x : Object) → there ≡ looked_in log l → value_at there.view at ≡ value.Object x → x ≡ item_in (value_at log.view at)
item_looked log there l at x e h = sym (ap item_in (sym (ap (λ (k : Log). value_at k.view at) e) ∙ h))

pub looked_twice : (log there last : Log) (l : Loc) → there ≡ looked_in log l → last ≡ looked_in there l → last ≡ looked_in log l
looked_twice log there last l e h = h ∙ ap (λ k. looked_in k l) e ∙ second_look_law log l

pub sought_met : (ds : List Cell) (key : Key) (old new : Log) (s : Sought) (m : Met) → reads (seek ds key) old ≡ record { outcome = Ok s; log = new } → option_map object_of (Some m) ≡ object_told s.glance → reads (find ds key) old ≡ record { outcome = Ok (object_of m); log = new }
sought_met ds key old new s m h t = sought_told ds key old new s (object_of m) h (sym t)

pub sought_looked : (ds : List Cell) (key same : Key) (old new last : Log) (s : Sought) (x : Object) → same ≡ key → reads (seek ds key) old ≡ record { outcome = Ok s; log = new }
    → value_at new.view (loc.Entry s.dict same) ≡ or_absent (Some x) → last ≡ looked_in new (loc.Entry s.dict same) → reads (find ds key) old ≡ record { outcome = Ok x; log = last }
sought_looked ds key same old new last s x e h v l =
    sought_other ds key old new s x last h
    (subst (λ k. value_at new.view (loc.Entry s.dict k) ≡ or_absent (Some x)) e v)
    (subst (λ k. last ≡ looked_in new (loc.Entry s.dict k)) e l)

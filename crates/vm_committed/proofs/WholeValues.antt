-- What stands at a place of a memory, by its parts.
use Rattle.std.proofs.Common.{◌≡◌, ℕ, Option, Some, None, refl, sym, ap, ◌∙◌}
use Rattle.std.specs.FinMap.{get}
use Rattle.ps_objects.specs.declared.cell.Cell.{Cell}
use Rattle.ps_objects.specs.declared.key.Key.{Key}
use Rattle.ps_objects.specs.declared.object.Object.{Object}
use Rattle.ps_objects.specs.declared.place.Loc.{Loc}
use Rattle.ps_objects.specs.declared.place.Loc.TheVariants as loc
use Rattle.ps_objects.specs.declared.place.Value.{Value}
use Rattle.ps_objects.specs.declared.place.Value.TheVariants as value
use Rattle.ps_memory.specs.Memory.{Content, Memory, Slot, entry, access, item, whole, held, spot_of, in_content, object_found, value_found, keys_of, part, seen_at, value_at}
use Rattle.vm_content.specs.Content.{slot_in, value_in}
use Rattle.vm_mem.specs.declared.glance.Glance.{Glance}
use Rattle.vm_mem.specs.declared.glance.Glance.TheVariants.{Absent}
use Rattle.vm_mem.specs.Glances.{glance_at}

-- what is seen in a cell that holds this, if anything
abbrev seen_in : Option Content → Slot → Value
seen_in o (entry k) = value_found (in_content o (entry k))
seen_in o access = value_found (in_content o access)
seen_in o (item i) = value_found (in_content o (item i))
seen_in o whole = keys_of o

seen_held : (M : Memory) (c : Cell) (t : Slot) → seen_at M (held c t) ≡ seen_in (get (part M c) c) t
seen_held M c (entry k) = refl
seen_held M c access = refl
seen_held M c (item i) = refl
seen_held M c whole = refl

nothing_seen : (t : Slot) → seen_in None t ≡ value.Absent
nothing_seen (entry k) = refl
nothing_seen access = refl
nothing_seen (item i) = refl
nothing_seen whole = refl

in_cell : (l : Loc) (c : Cell) (x : Content) → spot_of l ≡ held c (slot_in l) → seen_in (Some x) (slot_in l) ≡ value_in x l
in_cell (loc.Entry d k) c x p = refl
in_cell (loc.Keys d) c x p = refl
in_cell (loc.Access d) c x p = refl
in_cell (loc.Item a i) c x p = refl
in_cell (loc.Byte a i) c x p = cc
in_cell loc.Rand c x p = cc
in_cell loc.Paper c x p = cc

pub held_found : (M : Memory) (l : Loc) (c : Cell) (x : Content) → Some x ≡ get (part M c) c → spot_of l ≡ held c (slot_in l) → value_in x l ≡ value_at M l
held_found M l c x e p = sym (ap (seen_at M) p ∙ seen_held M c (slot_in l) ∙ ap (λ o. seen_in o (slot_in l)) (sym e) ∙ in_cell l c x p)

pub held_missing : (M : Memory) (l : Loc) (c : Cell) → None ≡ get (part M c) c → spot_of l ≡ held c (slot_in l) → value_at M l ≡ value.Absent
held_missing M l c e p = ap (seen_at M) p ∙ seen_held M c (slot_in l) ∙ ap (λ o. seen_in o (slot_in l)) (sym e) ∙ nothing_seen (slot_in l)

-- ---- glances

module _ (M : Memory) (c : Cell) (t : Slot) (g : Glance) where
  glance_found : (x : Content) (o : Option Object) → Some x ≡ get (part M c) c → object_found o ≡ in_content (Some x) t → g ≡ glance_at (value_found (object_found o)) → g ≡ glance_at (value_found (in_content (get (part M c) c) t))
  glance_found x o e f h = h ∙ ap (λ y. glance_at (value_found y)) (f ∙ ap (λ o. in_content o t) e)

  glance_missing : None ≡ get (part M c) c → Absent ≡ glance_at (value_found (in_content (get (part M c) c) t))
  glance_missing e = ap (λ o. glance_at (value_found (in_content o t))) e

pub item_found : (M : Memory) (a : Cell) (i : ℕ) (g : Glance) (x : Content) (o : Option Object) → Some x ≡ get (part M a) a → object_found o ≡ in_content (Some x) (item i) → g ≡ glance_at (value_found (object_found o)) → g ≡ glance_at (value_at M (loc.Item a i))
item_found M a i g x o e f h = glance_found M a (item i) g x o e f h

pub item_missing : (M : Memory) (a : Cell) (i : ℕ) → None ≡ get (part M a) a → Absent ≡ glance_at (value_at M (loc.Item a i))
item_missing M a i e = glance_missing M a (item i) Absent e

pub entry_found : (M : Memory) (d : Cell) (k : Key) (g : Glance) (x : Content) (o : Option Object) → Some x ≡ get (part M d) d → object_found o ≡ in_content (Some x) (entry k) → g ≡ glance_at (value_found (object_found o)) → g ≡ glance_at (value_at M (loc.Entry d k))
entry_found M d k g x o e f h = glance_found M d (entry k) g x o e f h

pub entry_missing : (M : Memory) (d : Cell) (k : Key) → None ≡ get (part M d) d → Absent ≡ glance_at (value_at M (loc.Entry d k))
entry_missing M d k e = glance_missing M d (entry k) Absent e

-- What the conditions of a memory's calls say, and what meets them.
use Rattle.std.proofs.Common.{◌≡◌, ◌≢◌, true, List, [], ◌∷◌, Option, Some, None, refl, sym, ap, ◌∙◌}
use Rattle.std.proofs.Common.{false}
use Rattle.std.specs.FinMap.{insert}
use Rattle.std.specs.List.{AllByRecursion}
use Rattle.ps_shapes.specs.Sheet.{Sheet}
use Rattle.ps_objects.specs.declared.cell.Cell.{Cell}
use Rattle.ps_objects.specs.declared.cell.SaveName.{SaveName}
use Rattle.ps_objects.specs.declared.place.Loc.{Loc}
use Rattle.ps_objects.specs.declared.place.Value.{Value}
use Rattle.ps_objects.specs.declared.place.Value.TheVariants as value
use Rattle.ps_objects.specs.declared.place.Shape.{Shape}
use Rattle.ps_memory.specs.Memory.{is_global, newer, CellMap, Memory, Page, here, out, page_out, Spot, held, byte, rand, paper, spot_of, shape_at, put_content, put_cell, put_page, do_store, content_of, copy_named, do_restore, perform, Action, store, fresh, save, restore, tell}
use Rattle.ps_memory.proofs.Places.{part_page}
use Rattle.ps_memory.specs.Frame.{later, IsUnused, IsNewest, Allowed}
use Rattle.ps_memory.specs.Writes.{apply, Applicable}
use Rattle.ps_meaning.specs.Answer.{Log, lifted_in}
use Rattle.vm_mem.specs.Conditions.{is_here, page_is_here, stands, MayLook, MayAsk, MayStore, MayMake, MayOpen, MayRestore, MayLay, MayApply}

-- ---- what they say

pub here_now : (M : Memory) → page_is_here M ≡ true → is_here M.page ≡ true
unfolding page_is_here
here_now M h = h

-- the same of a page that is a memory's
pub here_so : (M : Memory) (p : Page) → page_is_here M ≡ true → M.page ≡ p → is_here p ≡ true
here_so M p h e = sym (ap is_here e) ∙ here_now M h

pub look_stands : (M : Memory) (l : Loc) → MayLook M l → stands M l ≡ true
unfolding MayLook
look_stands M l h = h.1

pub store_allowed : (M : Memory) (l : Loc) (v : Value) → MayStore M l v → Allowed (store l v) M
unfolding MayStore
store_allowed M l v h = h.1

pub make_unused : (M : Memory) (c : Cell) → MayMake M c → IsUnused M c
unfolding MayMake
make_unused M c h = h.1

pub make_newest : (M : Memory) (c : Cell) → MayMake M c → is_global c ≡ false → AllByRecursion (λ k. newer c k.0 ≡ true) M.kept
unfolding MayMake
make_newest M c h = h.2

pub make_allowed : (M : Memory) (c : Cell) (sh : Shape) → MayMake M c → Allowed (fresh c sh) M
unfolding MayMake
make_allowed M c sh h = (h.1, h.2)

pub open_newest : (M : Memory) (s : SaveName) → MayOpen M s → IsNewest M s
unfolding MayOpen
open_newest M s h = h.1.0

pub open_latest : (M : Memory) (s : SaveName) → MayOpen M s → AllByRecursion (λ k. later s k.0 ≡ true) M.kept
unfolding MayOpen
open_latest M s h = h.1.1

pub open_allowed : (M : Memory) (s : SaveName) → MayOpen M s → Allowed (save s) M
unfolding MayOpen
open_allowed M s h = h.1

pub restore_allowed : (M : Memory) (s : SaveName) → MayRestore M s → Allowed (restore s) M
unfolding MayRestore
restore_allowed M s h = h.1

pub apply_here : (M : Memory) (ws : List Action) → MayApply M ws → page_is_here M ≡ true
unfolding MayApply
apply_here M ws h = h.0

pub all_applicable : (M : Memory) (ws : List Action) → MayApply M ws → Applicable ws M
unfolding MayApply
all_applicable M ws h = h.1

-- ---- what meets them

page_put : (v : Value) (p : Page) → is_here p ≡ true → is_here (put_page v p) ≡ true
page_put (value.Paper q) p h = refl
page_put value.Absent p h = h
page_put (value.Object x) p h = h
page_put (value.Byte n) p h = h
page_put (value.Access a) p h = h
page_put (value.Keys ks) p h = h
page_put (value.Rand n) p h = h

page_stored : (p : Spot) (v : Value) (M : Memory) → is_here M.page ≡ true → is_here (do_store p v M).page ≡ true
page_stored (held c t) v M h = ap is_here (part_page c (put_cell c (put_content t v)) M) ∙ h
page_stored (byte c i) v M h = h
page_stored rand v M h = h
page_stored paper v M h = page_put v M.page h

page_back : (s : SaveName) (o : Option CellMap) (M : Memory) → is_here M.page ≡ true → is_here (do_restore s o M).page ≡ true
page_back s None M h = h
page_back s (Some x) M h = h

-- an action leaves the paper here
pub here_after : (w : Action) (M : Memory) → page_is_here M ≡ true → page_is_here (perform w M) ≡ true
unfolding page_is_here
here_after (store l v) M h = page_stored (spot_of l) v M h
here_after (fresh c sh) M h = ap is_here (part_page c (λ m. insert m c (content_of sh)) M) ∙ h
here_after (save s) M h = h
here_after (restore s) M h = page_back s (copy_named s M.kept) M h
here_after (tell o) M h = h

pub here_applied : (ws : List Action) (M : Memory) → page_is_here M ≡ true → page_is_here (apply ws M) ≡ true
here_applied [] M h = h
here_applied (w ∷ ws) M h = here_after w (apply ws M) (here_applied ws M h)

pub may_look : (M : Memory) (l : Loc) → page_is_here M ≡ true → stands M l ≡ true → MayLook M l
unfolding MayLook
may_look M l h s = (h, s)

pub may_ask : (M : Memory) (c : Cell) → page_is_here M ≡ true → shape_at M c ≢ None → MayAsk M c
unfolding MayAsk
may_ask M c h s = (h, s)

pub may_store : (M : Memory) (l : Loc) (v : Value) → page_is_here M ≡ true → Allowed (store l v) M → MayStore M l v
unfolding MayStore
may_store M l v h a = (h, a)

pub may_make : (M : Memory) (c : Cell) → page_is_here M ≡ true → IsUnused M c → (is_global c ≡ false → AllByRecursion (λ k. newer c k.0 ≡ true) M.kept) → MayMake M c
unfolding MayMake
may_make M c h u n = (h, u, n)

pub may_open : (M : Memory) (s : SaveName) → page_is_here M ≡ true → Allowed (save s) M → MayOpen M s
unfolding MayOpen
may_open M s h a = (h, a)

pub may_restore : (M : Memory) (s : SaveName) → page_is_here M ≡ true → Allowed (restore s) M → MayRestore M s
unfolding MayRestore
may_restore M s h a = (h, a)

pub may_apply : (M : Memory) (ws : List Action) → page_is_here M ≡ true → Applicable ws M → MayApply M ws
unfolding MayApply
may_apply M ws h a = (h, a)

pub may_lay_out : (M : Memory) (p : Sheet) → M.page ≡ out p.width p.height → MayLay M p
unfolding MayLay
may_lay_out M p e = e

-- paper of the size of the paper that was lifted
pub may_lay : (old new : Log) (p q : Sheet) → old.view.page ≡ here p → new ≡ lifted_in old → q.width ≡ p.width → q.height ≡ p.height → MayLay new.view q
unfolding MayLay
may_lay old new p q is lifted w h = ap (λ (log : Log). log.view.page) lifted ∙ ap page_out is ∙ sym (λ i. out (w i) (h i))

-- What the tests ask of a memory before they call it.
use Rattle.std.proofs.Common.{◌≡◌, ◌≢◌, ℕ, Bool, true, false, cond, ◌&&◌, not, List, [], ◌∷◌, length, Option, Some, None, refl, sym, ap, ◌∙◌, subst, nat_lt, slice_get, true≢false, arith}
use Rattle.std.proofs.lemmas.Option.{slice_get_within}
use Rattle.std.proofs.lemmas.Cmp.{then_total, on_total, nat_cmp_total}
use Rattle.std.specs.declared.cmp.Ordering.{Ordering}
use Rattle.std.specs.declared.cmp.Ordering.TheVariants.{Less, Equal, Greater}
use Rattle.std.specs.Ordering.{nat_cmp, is_lt, is_gt, ordering_then, ordering_reverse}
use Rattle.std.specs.Cmp.{second_so, IsTotalOrder}
use Rattle.std.specs.FinMap.{FinMap, get, from_entries}
use Rattle.std.specs.List.{AllByRecursion}
use Rattle.ps_objects.specs.declared.cell.Cell.{Cell}
use Rattle.ps_objects.specs.declared.cell.SaveName.{SaveName}
use Rattle.ps_objects.specs.declared.cell.Space.{Space}
use Rattle.ps_objects.specs.declared.cell.Space.TheVariants.{Local, Global}
use Rattle.ps_objects.specs.declared.key.Key.{Key}
use Rattle.ps_objects.specs.declared.object.Object.{Object}
use Rattle.ps_objects.specs.declared.place.Loc.TheVariants as loc
use Rattle.ps_objects.specs.declared.place.Value.TheVariants as value
use Rattle.ps_memory.specs.Memory.{is_global, newer, same_save, Content, dictionary, items, characters, CellMap, Memory, part, in_content, whole, item, entry, access, object_found, byte_found, page_found, Page, here, out, in_string, value_found, keys_of, shape_in, shape_at, value_at, is_slot, is_byte, copy_named, perform}
use Rattle.ps_memory.specs.Frame.{later, Allowed, IsUnused, IsNewest}
use Rattle.ps_memory.specs.Writes.{apply, is_write, Applicable}
use Rattle.vm_mem.specs.Conditions.{is_here, page_is_here, is_dictionary, stands}
use Rattle.vm_journal.specs.Part.{HaveCells}
use Rattle.vm_content.specs.Next.{IsNextIn}
use Rattle.ps_memory.specs.Next.{is_after}
use Rattle.ps_memory.specs.Order.{cell_cmp}
use Rattle.ps_memory.specs.Holders.{HaveHolders, holds_string}
use Rattle.vm_mem.specs.Writes.{action_of, actions}
use Rattle.vm_mem.specs.declared.writes.Write.{Write}
use Rattle.vm_mem.specs.declared.writes.Write.TheVariants.{Fresh, Put, Remove, Save}
use Rattle.vm_content.proofs.Cells.{cell_found}

-- ---- open saves

abbrev save_cmp : SaveName → SaveName → Ordering
save_cmp s r = ordering_then (nat_cmp s.section r.section) (nat_cmp s.count r.count)

saves_total : IsTotalOrder save_cmp
saves_total = then_total (on_total (λ s. s.section) nat_cmp_total) (on_total (λ s. s.count) nat_cmp_total)

greater : (r : Ordering) → is_gt r ≡ true → r ≡ Greater
greater Less h = absurd (true≢false (sym h))
greater Equal h = absurd (true≢false (sym h))
greater Greater h = refl

earlier : (s r : SaveName) → later s r ≡ true → save_cmp r s ≡ Less
earlier s r h = saves_total.antisymm r s ∙ ap ordering_reverse (greater (save_cmp s r) h)

later_trans : (a b c : SaveName) → later a b ≡ true → later b c ≡ true → later a c ≡ true
later_trans a b c h k = ap is_gt (saves_total.antisymm a c ∙ ap ordering_reverse (saves_total.trans c b a (earlier b c k) (earlier a b h)))

later_all : (name s : SaveName) (kept : List (SaveName × CellMap)) → later name s ≡ true → AllByRecursion (λ k. later s k.0 ≡ true) kept → AllByRecursion (λ k. later name k.0 ≡ true) kept
later_all name s [] h l = tt
later_all name s (k ∷ kept) h l = (later_trans name s k.0 h l.0, later_all name s kept h l.1)

pub later_than_newest : (name s : SaveName) (kept rest : List (SaveName × CellMap)) (m : CellMap) → kept ≡ (s, m) ∷ rest → later name s ≡ true → AllByRecursion (λ k. later s k.0 ≡ true) rest → AllByRecursion (λ k. later name k.0 ≡ true) kept
later_than_newest name s kept rest m e h l = subst (AllByRecursion (λ k. later name k.0 ≡ true)) (sym e) (h, later_all name s rest h l)

pub later_than_none : (name : SaveName) (kept : List (SaveName × CellMap)) → kept ≡ [] → AllByRecursion (λ k. later name k.0 ≡ true) kept
later_than_none name kept e = subst (AllByRecursion (λ k. later name k.0 ≡ true)) (sym e) tt

pub this_open : (name s : SaveName) (kept rest : List (SaveName × CellMap)) (m : CellMap) → kept ≡ (s, m) ∷ rest → same_save name s ≡ true → copy_named name kept ≢ None
this_open name s kept rest m e h n = some_none (sym (ap (copy_named name) e ∙ ap (λ b. cond b (Some m) (copy_named name rest)) h) ∙ n)
  where
    some_none : (Some m ≡ None) → ⊥
    some_none e = cc

pub other_open : (name s : SaveName) (kept rest : List (SaveName × CellMap)) (m : CellMap) → kept ≡ (s, m) ∷ rest → same_save name s ≡ false → copy_named name kept ≡ copy_named name rest
other_open name s kept rest m e h = ap (copy_named name) e ∙ ap (λ b. cond b (Some m) (copy_named name rest)) h

pub no_strings : (t : FinMap cell_cmp (List ℕ)) (m : CellMap) → t ≡ from_entries [] → HaveCells t m
no_strings t m e c g h = ap (λ f. get f c) e ∙ cell_found [] c

pub newer_than_all : (c : Cell) (kept : List (SaveName × CellMap)) → AllByRecursion (λ k. later (record { section = c.section; count = c.count }) k.0 ≡ true) kept → is_global c ≡ false → AllByRecursion (λ k. newer c k.0 ≡ true) kept
newer_than_all c [] a g = tt
newer_than_all c (k ∷ kept) a g = (ap (λ b. not b && later (record { section = c.section; count = c.count }) k.0) g ∙ a.0, newer_than_all c kept a.1 g)

-- ---- cells

pub unused : (M : Memory) (c : Cell) → get M.locals (record { section = c.section; count = c.count; space = Local }) ≡ None
    → get M.globals (record { section = c.section; count = c.count; space = Global }) ≡ None → IsUnused M c
unused M c f g d p q = go d.space refl
  where
    go : (s : Space) → d.space ≡ s → shape_at M d ≡ None
    go Local e = ap (shape_at M) (λ i. record { section = p i; count = q i; space = e i }) ∙ ap (λ o. shape_in (in_content o whole)) f
    go Global e = ap (shape_at M) (λ i. record { section = p i; count = q i; space = e i }) ∙ ap (λ o. shape_in (in_content o whole)) g

pub newest : (M : Memory) (s : SaveName) → HaveHolders M → IsNextIn Local M.locals (Some (record { section = s.section; count = s.count; space = Global })) None → IsNewest M s
newest M s holders n c w = (ap (λ o. shape_in (in_content o whole)) gone, holders c (ap holds_string gone))
  where
    no_global : (b : Bool) → is_global c ≡ b → b ≡ false
    no_global false e = refl
    no_global true e = absurd (true≢false (sym w ∙ ap (λ b. not b && later (record { section = c.section; count = c.count }) s) e))

    local : is_global c ≡ false
    local = go (is_global c) refl
      where
        go : (b : Bool) → is_global c ≡ b → is_global c ≡ false
        go b e = e ∙ no_global b e

    behind : is_after (Some (record { section = s.section; count = s.count; space = Global })) c ≡ true
    behind = ap is_lt (earlier (record { section = c.section; count = c.count }) s (second_so (not (is_global c)) (later (record { section = c.section; count = c.count }) s) w))

    none : (o : Option Content) → get M.locals c ≡ o → o ≡ None
    none None e = refl
    none (Some x) e = absurd (true≢false (sym behind ∙ n c (ap not local) (λ m. some_none (sym e ∙ m))))
      where
        some_none : (Some x ≡ None) → ⊥
        some_none e = cc

    gone : get (part M c) c ≡ None
    gone = ap (λ b. get (cond b M.globals M.locals) c) local ∙ go (get M.locals c) refl
      where
        go : (o : Option Content) → get M.locals c ≡ o → get M.locals c ≡ None
        go o e = e ∙ none o e

-- ---- places

in_items : (xs : List Object) (i : ℕ) → value_found (object_found (slice_get xs i)) ≢ value.Absent → nat_lt i (length xs) ≡ true
in_items xs i h = go (slice_get xs i) refl h
  where
    go : (o : Option Object) → slice_get xs i ≡ o → value_found (object_found o) ≢ value.Absent → nat_lt i (length xs) ≡ true
    go None e h = absurd (h refl)
    go (Some x) e h = grind (arith, slice_get_within xs i x e)

in_bytes : (bs : List ℕ) (i : ℕ) → value_found (byte_found (slice_get bs i)) ≢ value.Absent → nat_lt i (length bs) ≡ true
in_bytes bs i h = go (slice_get bs i) refl h
  where
    go : (o : Option ℕ) → slice_get bs i ≡ o → value_found (byte_found o) ≢ value.Absent → nat_lt i (length bs) ≡ true
    go None e h = absurd (h refl)
    go (Some x) e h = grind (arith, slice_get_within bs i x e)

pub entry_stands : (M : Memory) (d : Cell) (k : Key) → value_at M (loc.Access d) ≢ value.Absent → stands M (loc.Entry d k) ≡ true
entry_stands M d k h = go (get (part M d) d) h
  where
    go : (o : Option Content) → value_found (in_content o access) ≢ value.Absent → is_slot o (entry k) ≡ true
    go None h = absurd (h refl)
    go (Some (dictionary n a es)) h = refl
    go (Some (items xs)) h = absurd (h refl)
    go (Some (characters n)) h = absurd (h refl)

pub access_stands : (M : Memory) (d : Cell) → value_at M (loc.Access d) ≢ value.Absent → stands M (loc.Access d) ≡ true
access_stands M d h = go (get (part M d) d) h
  where
    go : (o : Option Content) → value_found (in_content o access) ≢ value.Absent → is_slot o access ≡ true
    go None h = absurd (h refl)
    go (Some (dictionary n a es)) h = refl
    go (Some (items xs)) h = absurd (h refl)
    go (Some (characters n)) h = absurd (h refl)

pub keys_stand : (M : Memory) (d : Cell) → value_at M (loc.Keys d) ≢ value.Absent → stands M (loc.Keys d) ≡ true
keys_stand M d h = go (get (part M d) d) h
  where
    go : (o : Option Content) → keys_of o ≢ value.Absent → is_dictionary o ≡ true
    go None h = absurd (h refl)
    go (Some (dictionary n a es)) h = refl
    go (Some (items xs)) h = absurd (h refl)
    go (Some (characters n)) h = absurd (h refl)

pub item_stands : (M : Memory) (a : Cell) (i : ℕ) → value_at M (loc.Item a i) ≢ value.Absent → stands M (loc.Item a i) ≡ true
item_stands M a i h = go (get (part M a) a) h
  where
    go : (o : Option Content) → value_found (in_content o (item i)) ≢ value.Absent → is_slot o (item i) ≡ true
    go None h = absurd (h refl)
    go (Some (dictionary n a es)) h = absurd (h refl)
    go (Some (items xs)) h = in_items xs i h
    go (Some (characters n)) h = absurd (h refl)

pub byte_stands : (M : Memory) (s : Cell) (i : ℕ) → value_at M (loc.Byte s i) ≢ value.Absent → stands M (loc.Byte s i) ≡ true
byte_stands M s i h = go (get M.strings s) h
  where
    go : (o : Option (List ℕ)) → value_found (in_string o i) ≢ value.Absent → is_byte o i ≡ true
    go None h = absurd (h refl)
    go (Some bs) h = in_bytes bs i h

-- ---- writes

is_one : (w : Write) → is_write (action_of w) ≡ true
is_one (Fresh c sh) = refl
is_one (Put l v) = refl
is_one (Remove d k) = refl
is_one (Save s) = refl

pub one_more_applicable : (w : Write) (ws new : List Write) (M m : Memory) → m ≡ apply (actions ws) M → Applicable (actions ws) M → Allowed (action_of w) m → new ≡ w ∷ ws → Applicable (actions new) M
one_more_applicable w ws new M m e a h i = subst (λ us. Applicable (actions us) M) (sym i) (is_one w, subst (Allowed (action_of w)) e h, a)

pub one_more_applied : (w : Write) (ws new : List Write) (M m n : Memory) → m ≡ apply (actions ws) M → n ≡ perform (action_of w) m → new ≡ w ∷ ws → n ≡ apply (actions new) M
one_more_applied w ws new M m n e h i = h ∙ ap (perform (action_of w)) e ∙ sym (ap (λ us. apply (actions us) M) i)

-- ---- the paper

pub paper_is_here : (M : Memory) → value_at M loc.Paper ≢ value.Absent → page_is_here M ≡ true
unfolding page_is_here
paper_is_here M h = go M.page h
  where
    go : (p : Page) → value_found (page_found p) ≢ value.Absent → is_here p ≡ true
    go (here p) h = refl
    go (out w d) h = absurd (h refl)

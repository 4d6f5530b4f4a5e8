-- A lawful run on a sound memory is safe, and leaves it sound.
use Rattle.std.proofs.Common.{◌≡◌, ◌≢◌, ℕ, zero, suc, ◌<◌, Bool, true, false, cond, List, [], ◌∷◌, Option, Some, None, refl, sym, ap, ◌∙◌, subst, inl, inr, ◌⊎◌, arith, length, slice_get}
use Rattle.std.specs.Bool.{⊤}
use Rattle.std.specs.List.{AllByRecursion}
use Rattle.std.specs.FinMap.{get}
use Rattle.ps_objects.specs.declared.cell.Cell.{Cell}
use Rattle.ps_objects.specs.declared.cell.SaveName.{SaveName}
use Rattle.ps_objects.specs.declared.key.Key.{Key}
use Rattle.ps_objects.specs.declared.object.Object.{Object}
use Rattle.ps_objects.specs.declared.place.Loc.{Loc}
use Rattle.ps_objects.specs.declared.place.Loc.TheVariants as loc
use Rattle.ps_objects.specs.declared.place.Shape.{Shape}
use Rattle.ps_objects.specs.declared.place.Shape.TheVariants as shape
use Rattle.ps_memory.specs.Memory.{newer, same_save, Content, dictionary, items, characters, Memory, entry, access, item, whole, spot_of, Page, object_found, byte_found, page_found, in_content, in_string, part, value_found, keys_of, value_at, shape_in, standing_shape, shape_of, store, fresh, save, restore, tell, do_store, do_fresh, perform}
use Rattle.ps_memory.specs.Tree.{Tree, ends, looks, acts, asks}
use Rattle.ps_memory.specs.Ownership.{same_cell}
use Rattle.ps_memory.specs.Frame.{later}
use Rattle.ps_memory.proofs.Order.{cell_is}
use Rattle.ps_memory.proofs.Frame.{save_is}
use Rattle.ps_meaning.specs.Fits.{FitsFound, IsLoc}
use Rattle.ps_meaning.specs.Sound.{World, StringFits, SoundMemory, IsAnswer, made, resized, saved_at, has_name, names_before, restored_to, Lawful, StaysKin, Kept, SoundnessLaw}
use Rattle.ps_meaning.proofs.Fits.{apart, keys_fit}
use Rattle.ps_meaning.proofs.Memory.{HasPage, all_kept, opened_in, placed, after_store, after_fresh, after_save, after_restore, no_string}

-- ---- each look is answered by a value of its kind that fits

item_there : {X : Type 0} (xs : List X) (i : ℕ) → i < length xs → (x : X) × (slice_get xs i ≡ Some x)
item_there [] i h = absurd (omega arith)
item_there (x ∷ xs) zero h = (x, refl)
item_there (x ∷ xs) (suc i) h = item_there xs i (omega (arith, h))

small_there : (xs : List ℕ) (i n : ℕ) → AllByRecursion (λ b. b < 256) xs → slice_get xs i ≡ Some n → n < 256
small_there [] i n all e = cc
small_there (x ∷ xs) zero n all e = let p : x ≡ n = cc in subst (λ m. m < 256) p all.0
small_there (x ∷ xs) (suc i) n all e = small_there xs i n all.1 e

module _ (W : World) (M : Memory) (s : SoundMemory W M) where
  entry_answer : (d : Cell) (k : Key) (x : Option Content) (n : ℕ) → shape_in (in_content x whole) ≡ Some (shape.Dict n) → FitsFound W.shapes (entry k) (in_content x (entry k)) → IsAnswer W (loc.Entry d k) (value_found (in_content x (entry k)))
  entry_answer d k None n e f = tt
  entry_answer d k (Some (dictionary m a es)) n e f = go (get es k) f
    where
      go : (o : Option Object) → FitsFound W.shapes (entry k) (object_found o) → IsAnswer W (loc.Entry d k) (value_found (object_found o))
      go None f = tt
      go (Some x) f = f
  entry_answer d k (Some (items xs)) n e f = tt
  entry_answer d k (Some (characters m)) n e f = tt

  keys_answer : (d : Cell) (x : Option Content) (n : ℕ) → shape_in (in_content x whole) ≡ Some (shape.Dict n) → ((k : Key) → FitsFound W.shapes (entry k) (in_content x (entry k))) → IsAnswer W (loc.Keys d) (keys_of x)
  keys_answer d None n e f = absurd (apart (shape.Dict n) (sym e))
  keys_answer d (Some (dictionary m a es)) n e f = keys_fit W.shapes es f
  keys_answer d (Some (items xs)) n e f = absurd cc
  keys_answer d (Some (characters m)) n e f = absurd cc

  access_answer : (d : Cell) (x : Option Content) (n : ℕ) → shape_in (in_content x whole) ≡ Some (shape.Dict n) → IsAnswer W (loc.Access d) (value_found (in_content x access))
  access_answer d None n e = absurd (apart (shape.Dict n) (sym e))
  access_answer d (Some (dictionary m a es)) n e = tt
  access_answer d (Some (items xs)) n e = absurd cc
  access_answer d (Some (characters m)) n e = absurd cc

  item_answer : (c : Cell) (x : Option Content) (n i : ℕ) → shape_in (in_content x whole) ≡ Some (shape.Array n) → i < n → FitsFound W.shapes (item i) (in_content x (item i)) → IsAnswer W (loc.Item c i) (value_found (in_content x (item i)))
  item_answer c None n i e h f = absurd (apart (shape.Array n) (sym e))
  item_answer c (Some (dictionary m a es)) n i e h f = absurd cc
  item_answer c (Some (items xs)) n i e h f =
      let l : n ≡ length xs = cc in
      let (x, g) = item_there xs i (subst (λ m. i < m) l h) in
      subst (λ o. IsAnswer W (loc.Item c i) (value_found (object_found o))) (sym g) (subst (λ o. FitsFound W.shapes (item i) (object_found o)) g f)
  item_answer c (Some (characters m)) n i e h f = absurd cc

  byte_answer : (c : Cell) (o : Option (List ℕ)) (n i : ℕ) → StringFits (Some (shape.Str n)) o → i < n → IsAnswer W (loc.Byte c i) (value_found (in_string o i))
  byte_answer c o n i f h =
      let (b, g) = item_there f.0 i (subst (λ m. i < m) (sym f.2) h) in
      subst (λ o. IsAnswer W (loc.Byte c i) (value_found (in_string o i))) (sym f.1) (subst (λ o. IsAnswer W (loc.Byte c i) (value_found (byte_found o))) (sym g) (small_there f.0 i b f.3 g))

  paper_answer : (x : Page) → HasPage x W.size → IsAnswer W loc.Paper (value_found (page_found x))
  paper_answer x h = subst (λ x. IsAnswer W loc.Paper (value_found (page_found x))) (sym h.1) h.2

  pub answered : (l : Loc) → IsLoc W.shapes l → IsAnswer W l (value_at M l)
  answered (loc.Entry d k) i = entry_answer d k (get (part M d) d) i.0 (s.shapes d ∙ i.1) (s.slots d (entry k))
  answered (loc.Keys d) i = keys_answer d (get (part M d) d) i.0 (s.shapes d ∙ i.1) (λ k. s.slots d (entry k))
  answered (loc.Access d) i = access_answer d (get (part M d) d) i.0 (s.shapes d ∙ i.1)
  answered (loc.Item a j) i = item_answer a (get (part M a) a) i.0 j (s.shapes a ∙ i.1) i.2 (s.slots a (item j))
  answered (loc.Byte c j) i = byte_answer c (get M.strings c) i.0 j (subst (λ w. StringFits w (get M.strings c)) i.1 (s.strings c)) i.2
  answered loc.Rand i = s.rand
  answered loc.Paper i = paper_answer M.page s.page

-- ---- the cells of other sections

pub kin_itself : (W : World) → StaysKin W W
kin_itself W = record { section = refl; others = λ c n. inl refl; saves = λ s n h. h }

pub kin_then : (W V U : World) → StaysKin W V → StaysKin V U → StaysKin W U
kin_then W V U a b = record {
  section = b.section ∙ a.section;
  others = λ c n. go c (b.others c (λ e. n (e ∙ a.section))) (a.others c n);
  saves = λ s n h. a.saves s n (b.saves s (λ e. n (e ∙ a.section)) h);
}
  where
    go : (c : Cell) → ((U.shapes c ≡ V.shapes c) ⊎ (U.shapes c ≡ None)) → ((V.shapes c ≡ W.shapes c) ⊎ (V.shapes c ≡ None)) → ((U.shapes c ≡ W.shapes c) ⊎ (U.shapes c ≡ None))
    go c (inl x) (inl y) = inl (x ∙ y)
    go c (inl x) (inr y) = inr (x ∙ y)
    go c (inr x) y = inr x

kin_made : (W : World) (c : Cell) (sh : Shape) → c.section ≡ W.section → StaysKin W (made c sh W)
kin_made W c sh e = record { section = refl; others = λ d n. go d n (same_cell d c) refl; saves = λ s n h. h }
  where
    go : (d : Cell) → d.section ≢ W.section → (b : Bool) → same_cell d c ≡ b → (cond b (Some sh) (W.shapes d) ≡ W.shapes d) ⊎ (cond b (Some sh) (W.shapes d) ≡ None)
    go d n true g = absurd (n (ap (λ (x : Cell). x.section) (cell_is d c g) ∙ e))
    go d n false g = inl refl

kin_saved : (W : World) (r : SaveName) → r.section ≡ W.section → StaysKin W (saved_at r W)
kin_saved W r e = record { section = refl; others = λ d n. inl refl; saves = λ s n h. go s n (same_save s r) refl h }
  where
    go : (s : SaveName) → s.section ≢ W.section → (b : Bool) → same_save s r ≡ b → cond b true (has_name s W.saves) ≡ true → has_name s W.saves ≡ true
    go s n true g h = absurd (n (ap (λ (x : SaveName). x.section) (save_is s r g) ∙ e))
    go s n false g h = h

-- the names before one are among all
still_named : (s r : SaveName) (rs : List SaveName) → has_name s (names_before r rs) ≡ true → has_name s rs ≡ true
still_named s r [] h = h
still_named s r (x ∷ rs) h = either (same_save s x) (go (same_save r x) h (still_named s r rs))
  where
    either : (b : Bool) → has_name s rs ≡ true → cond b true (has_name s rs) ≡ true
    either true k = refl
    either false k = k

    go : (b : Bool) → has_name s (cond b rs (names_before r rs)) ≡ true → (has_name s (names_before r rs) ≡ true → has_name s rs ≡ true) → has_name s rs ≡ true
    go true k rest = k
    go false k rest = rest k

kin_restored : (W : World) (r : SaveName) → StaysKin W (restored_to r W)
kin_restored W r = record { section = refl; others = λ d n. go d (newer d r); saves = λ s n h. still_named s r W.saves h }
  where
    go : (d : Cell) (b : Bool) → (cond b None (W.shapes d) ≡ W.shapes d) ⊎ (cond b None (W.shapes d) ≡ None)
    go d true = inr refl
    go d false = inl refl

-- ---- runs

pub ground : {A : Type 0} (t : Tree A) (W : World) (M : Memory) (Q : World → A → Type 0) → Lawful t W Q → SoundMemory W M → Kept t W M Q
ground (ends a) W M Q l s = record { safe = tt; world = W; sound = s; kin = kin_itself W; ends = l }
ground (looks k f) W M Q l s =
    let r = ground (f (value_at M k)) W M Q (l.1 (value_at M k) (answered W M s k l.0)) s in
    record { safe = r.safe; world = r.world; sound = r.sound; kin = r.kin; ends = r.ends }
ground (acts (store q v) t) W M Q l s =
    let r = ground t (resized q v W) (do_store (spot_of q) v M) Q l.4 (after_store W M s q v l.0 l.1 l.2 l.3) in
    record { safe = ((placed W M s q v l.0 l.1, l.1), r.safe); world = r.world; sound = r.sound; kin = record { section = r.kin.section; others = r.kin.others; saves = r.kin.saves }; ends = r.ends }
ground (acts (fresh c sh) t) W M Q l s =
    let r = ground t (made c sh W) (do_fresh c sh M) Q l.1 (after_fresh W M s c sh l.0) in
    record {
      safe = ((λ d i j. s.shapes d ∙ l.0.1 d i j, λ g. all_kept (λ r. newer c r ≡ true) W.shapes W.saves M.kept s.kept (l.0.2 g)), r.safe);
      world = r.world;
      sound = r.sound;
      kin = kin_then W (made c sh W) r.world (kin_made W c sh l.0.0) r.kin;
      ends = r.ends;
    }
ground (acts (save x) t) W M Q l s =
    let r = ground t (saved_at x W) (perform (save x) M) Q l.1 (after_save W M s x l.0) in
    record {
      safe = ((λ c n. (s.shapes c ∙ l.0.1 c n, no_string W M s c (l.0.1 c n)), all_kept (λ r. later x r ≡ true) W.shapes W.saves M.kept s.kept l.0.2), r.safe);
      world = r.world;
      sound = r.sound;
      kin = kin_then W (saved_at x W) r.world (kin_saved W x l.0.0) r.kin;
      ends = r.ends;
    }
ground (acts (restore x) t) W M Q l s =
    let r = ground t (restored_to x W) (perform (restore x) M) Q l.1 (after_restore W M s x l.0) in
    let o = opened_in W.shapes x W.saves M.kept l.0 s.kept in
    record {
      safe = (λ e. apart o.copy (sym o.is_copy ∙ e), r.safe);
      world = r.world;
      sound = r.sound;
      kin = kin_then W (restored_to x W) r.world (kin_restored W x) r.kin;
      ends = r.ends;
    }
ground (acts (tell o) t) W M Q l s =
    let r = ground t W M Q l s in
    record { safe = (tt, r.safe); world = r.world; sound = r.sound; kin = r.kin; ends = r.ends }
ground (asks c f) W M Q l s =
    let e = s.shapes c in
    let r = ground (f (shape_of M c)) W M Q (subst (λ o. Lawful (f (standing_shape o)) W Q) (sym e) l.1) s in
    record { safe = (λ a. l.0 (sym e ∙ a), r.safe); world = r.world; sound = r.sound; kin = r.kin; ends = r.ends }

pub soundness_law : (A : Type 0) → SoundnessLaw A
soundness_law A t W M l s = ground t W M (λ _ _. ⊤) l s

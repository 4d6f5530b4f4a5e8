-- The local part's copies, and the newest of the open saves.
use Rattle.std.proofs.Common.{◌≡◌, ℕ, suc, ◌-◌, ◌<◌, Bool, true, false, cond, ◌&&◌, List, [], ◌∷◌, ◌++◌, length, Option, Some, None, refl, sym, ap, ◌∙◌, slice_set, slice_index_or, reverse, true≢false, Result, Ok, Err, OnOk, arith}
use Rattle.std.proofs.lemmas.List.{reverse-append}
use Rattle.std.specs.Cmp.{first_so, second_so}
use Rattle.std.specs.FinMap.{get, insert, get-insert}
use Rattle.std.specs.List.{AllByRecursion}
use Rattle.ps_objects.specs.declared.cell.Cell.{Cell}
use Rattle.ps_objects.specs.declared.cell.SaveName.{SaveName}
use Rattle.ps_objects.specs.declared.place.Loc.{Loc}
use Rattle.ps_objects.specs.declared.place.Value.{Value}
use Rattle.ps_memory.specs.Memory.{is_global, newer, Content, CellMap, Slot, Spot, held, byte, rand, paper, spot_of, put_content, put_cell}
use Rattle.ps_memory.specs.Ownership.{same_cell}
use Rattle.ps_memory.specs.Frame.{later}
use Rattle.ps_memory.proofs.Order.{cells_total, cell_is}
use Rattle.ps_memory.proofs.Places.{mapped, put_at}
use Rattle.ps_memory.proofs.Keeping.{keep_all, keep_change}
use Rattle.vm_journal.specs.Journal.{Saved, cells_reverted, as_saved, copies, is_latest, is_rising}
use Rattle.vm_content.specs.Content.{put_held}
use Rattle.vm_journal.specs.Part.{Part, AreLocal}

-- ---- the last of a list

one_less : (n m : ℕ) → n ≡ suc m → n - 1 ≡ m
one_less n m e = omega (arith, e)

module _ {X : Type 0} where
  long : (ys : List X) (x : X) → length (ys ++ x ∷ []) ≡ suc (length ys)
  long [] x = refl
  long (y ∷ ys) x = ap suc (long ys x)

  last_of : (xs : List X) → 0 < length xs → (before : List X) × (x : X) × (xs ≡ before ++ x ∷ [])
  last_of [] h = absurd (omega arith)
  last_of (x ∷ []) h = ([], x, refl)
  last_of (x ∷ y ∷ ys) h = let r = last_of (y ∷ ys) (omega arith) in (x ∷ r.0, r.1, ap (λ zs. x ∷ zs) r.2)

  set_last : (before : List X) (x y : X) → slice_set (before ++ x ∷ []) (length before) y ≡ before ++ y ∷ []
  set_last [] x y = refl
  set_last (z ∷ before) x y = ap (λ zs. z ∷ zs) (set_last before x y)

  get_last : (before : List X) (x d : X) → slice_index_or (before ++ x ∷ []) (length before) d ≡ x
  get_last [] x d = refl
  get_last (z ∷ before) x d = get_last before x d

  -- a list seen from its end, and with another last
  seen_last : (xs : List X) (d : X) → 0 < length xs → (rest : List X) × (reverse xs ≡ slice_index_or xs (length xs - 1) d ∷ rest) × ((y : X) → reverse (slice_set xs (length xs - 1) y) ≡ y ∷ rest)
  seen_last xs d h =
      let r = last_of xs h in
      let at = one_less (length xs) (length r.0) (ap length r.2 ∙ long r.0 r.1) in (
        reverse r.0,
        ap reverse r.2 ∙ reverse-append r.0 (r.1 ∷ []) ∙ ap (λ x. x ∷ reverse r.0) (sym (ap (λ n. slice_index_or xs n d) at ∙ ap (λ ys. slice_index_or ys (length r.0) d) r.2 ∙ get_last r.0 r.1 d)),
        λ y. ap (λ n. reverse (slice_set xs n y)) at ∙ ap (λ ys. reverse (slice_set ys (length r.0) y)) r.2 ∙ ap reverse (set_last r.0 r.1 y) ∙ reverse-append r.0 (y ∷ []),
      )

-- ---- another newest save

same_copies : (s r : Saved) (rest : List Saved) (m n : CellMap) → s.0 ≡ r.0 → as_saved s m ≡ as_saved r n → copies (s ∷ rest) m ≡ copies (r ∷ rest) n
same_copies s r rest m n p e = λ i. (p i, e i) ∷ copies rest (e i)

pub newest_same : (xs : List Saved) (x y : Saved) (m n : CellMap) → 0 < length xs → x ≡ slice_index_or xs (length xs - 1) x → y.0 ≡ x.0 → as_saved y m ≡ as_saved x n
    → copies (reverse (slice_set xs (length xs - 1) y)) m ≡ copies (reverse xs) n
newest_same xs x y m n h is p e =
    let r = seen_last xs x h in
    ap (λ ys. copies ys m) (r.2 y) ∙ same_copies y x r.0 m n p e ∙ sym (ap (λ ys. copies ys n) (r.1 ∙ ap (λ z. z ∷ r.0) (sym is)))

pub newest_noted : {A E : Type 0} (o : Result A E) (xs : List Saved) (x y : Saved) (l : Loc) (m : CellMap) → 0 < length xs → x ≡ slice_index_or xs (length xs - 1) x → y.0 ≡ x.0
    → OnOk o ((v : Value) → as_saved y (put_held (spot_of l) v m) ≡ as_saved x m) → OnOk o ((v : Value) → copies (reverse (slice_set xs (length xs - 1) y)) (put_held (spot_of l) v m) ≡ copies (reverse xs) m)
newest_noted (Ok a) xs x y l m h is p e = λ v. newest_same xs x y (put_held (spot_of l) v m) m h is p (e v)
newest_noted (Err a) xs x y l m h is p e = tt

pub newest_rising : (xs : List Saved) (x y : Saved) → 0 < length xs → x ≡ slice_index_or xs (length xs - 1) x → y.0 ≡ x.0 → is_rising (reverse (slice_set xs (length xs - 1) y)) ≡ is_rising (reverse xs)
newest_rising xs x y h is p =
    let r = seen_last xs x h in
    ap is_rising (r.2 y) ∙ ap (λ q. is_latest q r.0 && is_rising r.0) p ∙ sym (ap is_rising (r.1 ∙ ap (λ z. z ∷ r.0) (sym is)))

-- ---- a new cell, and a new save

pub copies_insert : (saves : List Saved) (m : CellMap) (c : Cell) (x : Content) → AllByRecursion (λ k. newer c k.0 ≡ true) (copies saves m) → copies saves (insert m c x) ≡ copies saves m
copies_insert [] m c x h = refl
copies_insert (s ∷ saves) m c x h = same_copies s s saves (insert m c x) m refl
    (ap (cells_reverted s.1) (keep_change s.0 c m (insert m c x) h.0 (λ d e. get-insert cells_total m c x d ∙ ap (λ b. cond b (Some x) (get m d)) e)))

pub opened_copies : (name : SaveName) (saves : List Saved) (m : CellMap) → ((c : Cell) → newer c name ≡ true → get m c ≡ None) → copies ((name, []) ∷ saves) m ≡ (name, m) ∷ copies saves m
opened_copies name saves m h = ap (λ n. (name, n) ∷ copies saves n) (keep_all name m h)

pub latest_named : (name : SaveName) (saves : List Saved) (m : CellMap) → AllByRecursion (λ k. later name k.0 ≡ true) (copies saves m) → is_latest name saves ≡ true
latest_named name [] m h = refl
latest_named name (s ∷ saves) m h = ap (λ b. b && is_latest name saves) h.0 ∙ latest_named name saves (as_saved s m) h.1

pub names_latest : (name : SaveName) (saves : List Saved) (m : CellMap) → is_latest name saves ≡ true → AllByRecursion (λ k. later name k.0 ≡ true) (copies saves m)
names_latest name [] m h = tt
names_latest name (s ∷ saves) m h = (first_so _ _ h, names_latest name saves (as_saved s m) (second_so _ _ h))

pub pushed : {X : Type 0} (xs : List X) (x : X) → reverse (xs ++ x ∷ []) ≡ x ∷ reverse xs
pushed xs x = reverse-append xs (x ∷ [])

-- ---- the whole part

abbrev part_of : List Saved → CellMap → Part
part_of saves m = record { cells = m; kept = copies saves m }

pub part_inserted : (saves : List Saved) (m n : CellMap) (c : Cell) (x : Content) → n ≡ insert m c x → AllByRecursion (λ k. newer c k.0 ≡ true) (copies saves m)
    → ◌≡◌ {A = Part} (record { cells = n; kept = copies saves n }) (record { cells = insert m c x; kept = copies saves m })
part_inserted saves m n c x e h = ap (part_of saves) e ∙ ap (λ ks. record { cells = insert m c x; kept = ks }) (copies_insert saves m c x h)

pub part_opened : (name : SaveName) (saves new : List Saved) (s : Saved) (m : CellMap) → new ≡ s ∷ saves → s ≡ (name, []) → ((c : Cell) → newer c name ≡ true → get m c ≡ None)
    → ◌≡◌ {A = Part} (record { cells = m; kept = copies new m }) (record { cells = m; kept = (name, m) ∷ copies saves m })
part_opened name saves new s m e i h = ap (λ ks. record { cells = m; kept = ks }) (ap (λ ys. copies ys m) (e ∙ ap (λ r. r ∷ saves) i) ∙ opened_copies name saves m h)

pub rising_opened : (name : SaveName) (saves new : List Saved) (s : Saved) (m : CellMap) → new ≡ s ∷ saves → s ≡ (name, []) → AllByRecursion (λ k. later name k.0 ≡ true) (copies saves m) → is_rising saves ≡ true → is_rising new ≡ true
rising_opened name saves new s m e i h r = ap is_rising (e ∙ ap (λ r. r ∷ saves) i) ∙ ap (λ b. b && is_rising saves) (latest_named name saves m h) ∙ r

-- a value is put where the newest save has noted what was there
pub part_put : (old new : List Saved) (m n : CellMap) (l : Loc) (c : Cell) (t : Slot) (v : Value) → spot_of l ≡ held c t → n ≡ put_held (spot_of l) v m
    → ((w : Value) → copies new (put_held (spot_of l) w m) ≡ copies old m)
    → ◌≡◌ {A = Part} (record { cells = n; kept = copies new n }) (record { cells = put_cell c (put_content t v) m; kept = copies old m })
part_put old new m n l c t v p e h = ap (part_of new) e ∙ ap (λ ks. record { cells = put_held (spot_of l) v m; kept = ks }) (h v) ∙ ap (λ q. record { cells = put_held q v m; kept = copies old m }) p

pub part_same : (old new : List Saved) (m n : CellMap) → n ≡ m → copies new m ≡ copies old m → ◌≡◌ {A = Part} (record { cells = n; kept = copies new n }) (record { cells = m; kept = copies old m })
part_same old new m n e h = ap (part_of new) e ∙ ap (λ ks. record { cells = m; kept = ks }) h

pub local_insert : (m n : CellMap) (c : Cell) (x : Content) → n ≡ insert m c x → is_global c ≡ false → AreLocal m → AreLocal n
local_insert m n c x e g h q i = ap (λ o. get o q) e ∙ get-insert cells_total m c x q ∙ go (same_cell q c) refl
  where
    go : (b : Bool) → same_cell q c ≡ b → cond b (Some x) (get m q) ≡ None
    go true s = absurd (true≢false (sym i ∙ ap is_global (cell_is q c s) ∙ g))
    go false s = h q i

none_put : (c q : Cell) (f : Content → Content) (m : CellMap) → get m q ≡ None → get (put_cell c f m) q ≡ None
none_put c q f m e = put_at c q f m ∙ go (same_cell q c) (get m q) e
  where
    go : (b : Bool) (o : Option Content) → o ≡ None → cond b (mapped f o) o ≡ None
    go true o e = ap (mapped f) e
    go false o e = e

pub none_held : (p : Spot) (q : Cell) (v : Value) (m : CellMap) → get m q ≡ None → get (put_held p v m) q ≡ None
none_held (held c t) q v m e = none_put c q (put_content t v) m e
none_held (byte c i) q v m e = e
none_held rand q v m e = e
none_held paper q v m e = e

pub local_put : (m n : CellMap) (p : Spot) (v : Value) → n ≡ put_held p v m → AreLocal m → AreLocal n
local_put m n p v e h q i = ap (λ o. get o q) e ∙ none_held p q v m (h q i)

pub local_same : (m n : CellMap) → n ≡ m → AreLocal m → AreLocal n
local_same m n e h q i = ap (λ o. get o q) e ∙ h q i

-- A store commutes with what is done elsewhere, and takes the place of an earlier store.
use Rattle.std.proofs.Common.{◌≡◌, ℕ, zero, suc, Bool, true, false, cond, ◌&&◌, List, [], ◌∷◌, Option, Some, None, option_map, refl, sym, ap, ◌∙◌, subst, true≢false, nat_eq, nat_lt, slice_set, replicate}
use Rattle.std.proofs.lemmas.Bool.{eqb-false}
use Rattle.std.specs.Bool.{⊤}
use Rattle.std.specs.Ordering.{eq_by_cmp}
use Rattle.std.specs.List.{AllByRecursion}
use Rattle.std.specs.FinMap.{FinMap, get, insert, remove, get-insert, get-remove, same_map}
use Rattle.ps_objects.specs.declared.cell.Cell.{Cell}
use Rattle.ps_objects.specs.declared.cell.SaveName.{SaveName}
use Rattle.ps_objects.specs.declared.key.Key.{Key}
use Rattle.ps_objects.specs.declared.object.Object.{Object}
use Rattle.ps_objects.specs.declared.place.Loc.{Loc}
use Rattle.ps_objects.specs.declared.place.Value.{Value}
use Rattle.ps_objects.specs.declared.place.Value.TheVariants as value
use Rattle.ps_objects.specs.declared.place.Shape.{Shape}
use Rattle.ps_objects.specs.declared.place.Shape.TheVariants as shape
use Rattle.ps_memory.specs.Order.{cell_cmp, key_cmp}
use Rattle.ps_memory.specs.Memory.{is_global, newer, Content, dictionary, items, characters, CellMap, Memory, Slot, entry, access, item, whole, Spot, held, byte, rand, paper, spot_of, part, shape_in, is_slot, is_byte, is_place, is_kind, Action, store, fresh, save, restore, tell, put_entry, put_item, put_content, put_byte, put_cell, with_part, do_store, content_of, new_bytes, do_fresh, perform}
use Rattle.ps_memory.specs.Ownership.{same_cell, same_slot, same_spot, in_cell, outlives}
use Rattle.ps_memory.specs.Frame.{later, Allowed}
use Rattle.ps_memory.specs.Writes.{apply, is_write, Applicable, store_replaced, note, ReplacingLaw}
use Rattle.ps_memory.proofs.Order.{cells_total, cells_antisymmetric, keys_total, keys_antisymmetric, cell_is, cell_itself, key_is}
use Rattle.ps_memory.proofs.Places.{spot_is, part_other, part_strings, mapped, put_at, insert_other, length_put, length_set, string_fresh_other, store_other}
use Rattle.ps_memory.proofs.Stored.{held_store, no_shape}
use Rattle.ps_memory.proofs.Frame.{kept_store}

-- ---- two changes of a map

module _ {X : Type 0} where
  pub mapped_swap : (f g : X → X) → ((x : X) → f (g x) ≡ g (f x)) → (o : Option X) → mapped f (mapped g o) ≡ mapped g (mapped f o)
  mapped_swap f g h None = refl
  mapped_swap f g h (Some x) = ap Some (h x)

  pub put_put : (c d q : Cell) (f g : X → X) (m : FinMap cell_cmp X) → get (put_cell c f (put_cell d g m)) q
      ≡ cond (same_cell q c) (mapped f (cond (same_cell q d) (mapped g (get m q)) (get m q))) (cond (same_cell q d) (mapped g (get m q)) (get m q))
  put_put c d q f g m = put_at c q f (put_cell d g m) ∙ ap (λ o. cond (same_cell q c) (mapped f o) o) (put_at d q g m)

  pub put_swap : (c d : Cell) (f g : X → X) (m : FinMap cell_cmp X) → (same_cell c d ≡ true → (x : X) → f (g x) ≡ g (f x)) → put_cell c f (put_cell d g m) ≡ put_cell d g (put_cell c f m)
  put_swap c d f g m h = same_map cells_total cells_antisymmetric (put_cell c f (put_cell d g m)) (put_cell d g (put_cell c f m)) (λ q. put_put c d q f g m ∙ go q (same_cell q c) (same_cell q d) refl refl (get m q) ∙ sym (put_put d c q g f m))
    where
      go : (q : Cell) (a b : Bool) → same_cell q c ≡ a → same_cell q d ≡ b → (o : Option X)
          → cond a (mapped f (cond b (mapped g o) o)) (cond b (mapped g o) o) ≡ cond b (mapped g (cond a (mapped f o) o)) (cond a (mapped f o) o)
      go q true true i j o = mapped_swap f g (h (subst (λ e. same_cell c e ≡ true) (sym (cell_is q c i) ∙ cell_is q d j) (cell_itself c))) o
      go q true false i j o = refl
      go q false true i j o = refl
      go q false false i j o = refl

  pub put_over : (c : Cell) (f g : X → X) (m : FinMap cell_cmp X) → ((x : X) → f (g x) ≡ f x) → put_cell c f (put_cell c g m) ≡ put_cell c f m
  put_over c f g m h = same_map cells_total cells_antisymmetric (put_cell c f (put_cell c g m)) (put_cell c f m) (λ q. put_put c c q f g m ∙ go (same_cell q c) (get m q) ∙ sym (put_at c q f m))
    where
      go : (a : Bool) (o : Option X) → cond a (mapped f (cond a (mapped g o) o)) (cond a (mapped g o) o) ≡ cond a (mapped f o) o
      go true None = refl
      go true (Some x) = ap Some (h x)
      go false o = refl

  pub insert_swap : (c d : Cell) (x : X) (f : X → X) (m : FinMap cell_cmp X) → same_cell d c ≡ false → insert (put_cell d f m) c x ≡ put_cell d f (insert m c x)
  insert_swap c d x f m h = same_map cells_total cells_antisymmetric (insert (put_cell d f m) c x) (put_cell d f (insert m c x)) (λ q.
      get-insert cells_total (put_cell d f m) c x q ∙ ap (cond (same_cell q c) (Some x)) (put_at d q f m) ∙ go q (same_cell q c) (same_cell q d) refl refl (get m q)
      ∙ ap (λ o. cond (same_cell q d) (mapped f o) o) (sym (get-insert cells_total m c x q)) ∙ sym (put_at d q f (insert m c x)))
    where
      go : (q : Cell) (a b : Bool) → same_cell q c ≡ a → same_cell q d ≡ b → (o : Option X)
          → cond a (Some x) (cond b (mapped f o) o) ≡ cond b (mapped f (cond a (Some x) o)) (cond a (Some x) o)
      go q true true i j o = absurd (true≢false (sym (subst (λ e. same_cell d e ≡ true) (sym (cell_is q d j) ∙ cell_is q c i) (cell_itself d)) ∙ h))
      go q true false i j o = refl
      go q false true i j o = refl
      go q false false i j o = refl

  pub remove_swap : (c d : Cell) (f : X → X) (m : FinMap cell_cmp X) → remove (put_cell d f m) c ≡ put_cell d f (remove m c)
  remove_swap c d f m = same_map cells_total cells_antisymmetric (remove (put_cell d f m) c) (put_cell d f (remove m c)) (λ q.
      get-remove cells_total (put_cell d f m) c q ∙ ap (cond (same_cell q c) None) (put_at d q f m) ∙ go (same_cell q c) (same_cell q d) (get m q)
      ∙ ap (λ o. cond (same_cell q d) (mapped f o) o) (sym (get-remove cells_total m c q)) ∙ sym (put_at d q f (remove m c)))
    where
      go : (a b : Bool) (o : Option X) → cond a None (cond b (mapped f o) o) ≡ cond b (mapped f (cond a None o)) (cond a None o)
      go true true o = refl
      go true false o = refl
      go false true o = refl
      go false false o = refl

-- ---- two stores in one cell

abbrev put_option : Value → Option Object → Option Object
put_option value.Absent o = None
put_option (value.Object x) o = Some x
put_option _ o = o

alike : {X : Type 0} (b : Bool) (o : Option X) → o ≡ cond b o o
alike true o = refl
alike false o = refl

entry_at : (k q : Key) (v : Value) (es : FinMap key_cmp Object) → get (put_entry k v es) q ≡ cond (eq_by_cmp key_cmp q k) (put_option v (get es q)) (get es q)
entry_at k q value.Absent es = get-remove keys_total es k q
entry_at k q (value.Object x) es = get-insert keys_total es k x q
entry_at k q _ es = alike (eq_by_cmp key_cmp q k) (get es q)

entry_twice : (k j q : Key) (v w : Value) (es : FinMap key_cmp Object) → get (put_entry k v (put_entry j w es)) q
    ≡ cond (eq_by_cmp key_cmp q k) (put_option v (cond (eq_by_cmp key_cmp q j) (put_option w (get es q)) (get es q))) (cond (eq_by_cmp key_cmp q j) (put_option w (get es q)) (get es q))
entry_twice k j q v w es = entry_at k q v (put_entry j w es) ∙ ap (λ o. cond (eq_by_cmp key_cmp q k) (put_option v o) o) (entry_at j q w es)

entry_swap : (k j : Key) (v w : Value) (es : FinMap key_cmp Object) → eq_by_cmp key_cmp j k ≡ false → put_entry k v (put_entry j w es) ≡ put_entry j w (put_entry k v es)
entry_swap k j v w es h = same_map keys_total keys_antisymmetric (put_entry k v (put_entry j w es)) (put_entry j w (put_entry k v es)) (λ q. entry_twice k j q v w es ∙ go q (eq_by_cmp key_cmp q k) (eq_by_cmp key_cmp q j) refl refl (get es q) ∙ sym (entry_twice j k q w v es))
  where
    go : (q : Key) (a b : Bool) → eq_by_cmp key_cmp q k ≡ a → eq_by_cmp key_cmp q j ≡ b → (o : Option Object)
        → cond a (put_option v (cond b (put_option w o) o)) (cond b (put_option w o) o) ≡ cond b (put_option w (cond a (put_option v o) o)) (cond a (put_option v o) o)
    go q true true i e o = absurd (true≢false (sym (subst (λ x. eq_by_cmp key_cmp x k ≡ true) (key_is q j e) i) ∙ h))
    go q true false i e o = refl
    go q false true i e o = refl
    go q false false i e o = refl

entry_over : (c : Cell) (k : Key) (v w : Value) (es : FinMap key_cmp Object) → is_kind (held c (entry k)) v ≡ true → put_entry k v (put_entry k w es) ≡ put_entry k v es
entry_over c k v w es h = same_map keys_total keys_antisymmetric (put_entry k v (put_entry k w es)) (put_entry k v es) (λ q. entry_twice k k q v w es ∙ go v h (eq_by_cmp key_cmp q k) (get es q) ∙ sym (entry_at k q v es))
  where
    go : (v : Value) → is_kind (held c (entry k)) v ≡ true → (a : Bool) (o : Option Object) → cond a (put_option v (cond a (put_option w o) o)) (cond a (put_option w o) o) ≡ cond a (put_option v o) o
    go value.Absent h true o = refl
    go value.Absent h false o = refl
    go (value.Object x) h true o = refl
    go (value.Object x) h false o = refl
    go _ h a o = cc

set_swap : {X : Type 0} (xs : List X) (i j : ℕ) (x y : X) → ¬ (i ≡ j) → slice_set (slice_set xs j y) i x ≡ slice_set (slice_set xs i x) j y
set_swap [] i j x y h = refl
set_swap (z ∷ zs) zero zero x y h = absurd (h refl)
set_swap (z ∷ zs) zero (suc j) x y h = refl
set_swap (z ∷ zs) (suc i) zero x y h = refl
set_swap (z ∷ zs) (suc i) (suc j) x y h = ap (λ ys. z ∷ ys) (set_swap zs i j x y (λ e. h (ap suc e)))

set_over : {X : Type 0} (xs : List X) (i : ℕ) (x y : X) → slice_set (slice_set xs i y) i x ≡ slice_set xs i x
set_over [] i x y = refl
set_over (z ∷ zs) zero x y = refl
set_over (z ∷ zs) (suc i) x y = ap (λ ys. z ∷ ys) (set_over zs i x y)

item_swap : (i j : ℕ) (v w : Value) (xs : List Object) → ¬ (i ≡ j) → put_item i v (put_item j w xs) ≡ put_item j w (put_item i v xs)
item_swap i j (value.Object x) (value.Object y) xs h = set_swap xs i j x y h
item_swap i j _ _ xs h = refl

item_over : (i : ℕ) (x : Object) (w : Value) (xs : List Object) → slice_set (put_item i w xs) i x ≡ slice_set xs i x
item_over i x (value.Object y) xs = set_over xs i x y
item_over i x _ xs = refl

byte_swap : (i j : ℕ) (v w : Value) (bs : List ℕ) → ¬ (i ≡ j) → put_byte i v (put_byte j w bs) ≡ put_byte j w (put_byte i v bs)
byte_swap i j (value.Byte x) (value.Byte y) bs h = set_swap bs i j x y h
byte_swap i j _ _ bs h = refl

byte_over : (c : Cell) (i : ℕ) (v w : Value) (bs : List ℕ) → is_kind (byte c i) v ≡ true → put_byte i v (put_byte i w bs) ≡ put_byte i v bs
byte_over c i (value.Byte x) (value.Byte y) bs h = set_over bs i x y
byte_over c i (value.Byte x) _ bs h = refl
byte_over c i _ w bs h = cc

inert : (s : Slot) (v : Value) (n : ℕ) → put_content s v (characters n) ≡ characters n
inert (entry k) v n = refl
inert access v n = refl
inert (item i) v n = refl
inert whole v n = refl

pub content_swap : (s t : Slot) (v w : Value) (x : Content) → same_slot s t ≡ false → put_content s v (put_content t w x) ≡ put_content t w (put_content s v x)
content_swap s t v w (characters n) h = ap (put_content s v) (inert t w n) ∙ inert s v n ∙ sym (ap (put_content t w) (inert s v n) ∙ inert t w n)
content_swap (entry k) (entry j) v w (dictionary n a es) h = ap (dictionary n a) (entry_swap k j v w es h)
content_swap (entry k) access v w (dictionary n a es) h = refl
content_swap (entry k) (item j) v w (dictionary n a es) h = refl
content_swap (entry k) whole v w (dictionary n a es) h = refl
content_swap access (entry j) v w (dictionary n a es) h = refl
content_swap access access v w (dictionary n a es) h = absurd (true≢false h)
content_swap access (item j) v w (dictionary n a es) h = refl
content_swap access whole v w (dictionary n a es) h = refl
content_swap (item i) (entry j) v w (dictionary n a es) h = refl
content_swap (item i) access v w (dictionary n a es) h = refl
content_swap (item i) (item j) v w (dictionary n a es) h = refl
content_swap (item i) whole v w (dictionary n a es) h = refl
content_swap whole (entry j) v w (dictionary n a es) h = refl
content_swap whole access v w (dictionary n a es) h = refl
content_swap whole (item j) v w (dictionary n a es) h = refl
content_swap whole whole v w (dictionary n a es) h = absurd (true≢false h)
content_swap (entry k) (entry j) v w (items xs) h = refl
content_swap (entry k) access v w (items xs) h = refl
content_swap (entry k) (item j) v w (items xs) h = refl
content_swap (entry k) whole v w (items xs) h = refl
content_swap access (entry j) v w (items xs) h = refl
content_swap access access v w (items xs) h = absurd (true≢false h)
content_swap access (item j) v w (items xs) h = refl
content_swap access whole v w (items xs) h = refl
content_swap (item i) (entry j) v w (items xs) h = refl
content_swap (item i) access v w (items xs) h = refl
content_swap (item i) (item j) v w (items xs) h = ap items (item_swap i j v w xs (eqb-false i j h))
content_swap (item i) whole v w (items xs) h = refl
content_swap whole (entry j) v w (items xs) h = refl
content_swap whole access v w (items xs) h = refl
content_swap whole (item j) v w (items xs) h = refl
content_swap whole whole v w (items xs) h = absurd (true≢false h)

pub content_over : (c : Cell) (t : Slot) (v w : Value) (x : Content) → is_kind (held c t) v ≡ true → put_content t v (put_content t w x) ≡ put_content t v x
content_over c (entry k) v w (dictionary n a es) h = ap (dictionary n a) (entry_over c k v w es h)
content_over c access (value.Access b) w (dictionary n a es) h = refl
content_over c (item i) (value.Object y) w (items xs) h = ap items (item_over i y w xs)
content_over c (entry k) v w (items xs) h = refl
content_over c (entry k) v w (characters n) h = refl
content_over c access v w (items xs) h = refl
content_over c access v w (characters n) h = refl
content_over c (item i) v w (dictionary n a es) h = refl
content_over c (item i) v w (characters n) h = refl
content_over c access _ w (dictionary n a es) h = cc
content_over c (item i) _ w (items xs) h = cc
content_over c whole v w x h = refl

-- ---- memories

parts_swap : (c d : Cell) (F G : CellMap → CellMap) (M : Memory) → ((m : CellMap) → F (G m) ≡ G (F m)) → with_part (with_part M d G) c F ≡ with_part (with_part M c F) d G
parts_swap c d F G M h = go (is_global c) (is_global d)
  where
    go : (x y : Bool)
        → cond x (record (cond y (record M { globals = G M.globals }) (record M { locals = G M.locals })) { globals = F (cond y (record M { globals = G M.globals }) (record M { locals = G M.locals })).globals })
        (record (cond y (record M { globals = G M.globals }) (record M { locals = G M.locals })) { locals = F (cond y (record M { globals = G M.globals }) (record M { locals = G M.locals })).locals })
        ≡ cond y (record (cond x (record M { globals = F M.globals }) (record M { locals = F M.locals })) { globals = G (cond x (record M { globals = F M.globals }) (record M { locals = F M.locals })).globals })
        (record (cond x (record M { globals = F M.globals }) (record M { locals = F M.locals })) { locals = G (cond x (record M { globals = F M.globals }) (record M { locals = F M.locals })).locals })
    go true true = ap (λ m. record M { globals = m }) (h M.globals)
    go true false = refl
    go false true = refl
    go false false = ap (λ m. record M { locals = m }) (h M.locals)

parts_over : (c : Cell) (F G : CellMap → CellMap) (M : Memory) → ((m : CellMap) → F (G m) ≡ F m) → with_part (with_part M c G) c F ≡ with_part M c F
parts_over c F G M h = go (is_global c)
  where
    go : (x : Bool)
        → cond x (record (cond x (record M { globals = G M.globals }) (record M { locals = G M.locals })) { globals = F (cond x (record M { globals = G M.globals }) (record M { locals = G M.locals })).globals })
        (record (cond x (record M { globals = G M.globals }) (record M { locals = G M.locals })) { locals = F (cond x (record M { globals = G M.globals }) (record M { locals = G M.locals })).locals })
        ≡ cond x (record M { globals = F M.globals }) (record M { locals = F M.locals })
    go true = ap (λ m. record M { globals = m }) (h M.globals)
    go false = ap (λ m. record M { locals = m }) (h M.locals)

part_then_strings : (c : Cell) (F : CellMap → CellMap) (f : FinMap cell_cmp (List ℕ) → FinMap cell_cmp (List ℕ)) (M : Memory)
    → with_part (record M { strings = f M.strings }) c F ≡ record (with_part M c F) { strings = f (with_part M c F).strings }
part_then_strings c F f M = go (is_global c)
  where
    go : (x : Bool) → cond x (record (record M { strings = f M.strings }) { globals = F M.globals }) (record (record M { strings = f M.strings }) { locals = F M.locals })
        ≡ record (cond x (record M { globals = F M.globals }) (record M { locals = F M.locals })) { strings = f (cond x (record M { globals = F M.globals }) (record M { locals = F M.locals })).strings }
    go true = refl
    go false = refl

part_then_rand : (c : Cell) (F : CellMap → CellMap) (v : Value) (M : Memory) → with_part (do_store rand v M) c F ≡ do_store rand v (with_part M c F)
part_then_rand c F v M = go (is_global c)
  where
    go : (x : Bool) → cond x (record (do_store rand v M) { globals = F M.globals }) (record (do_store rand v M) { locals = F M.locals })
        ≡ do_store rand v (cond x (record M { globals = F M.globals }) (record M { locals = F M.locals }))
    go true = refl
    go false = refl

part_then_paper : (c : Cell) (F : CellMap → CellMap) (v : Value) (M : Memory) → with_part (do_store paper v M) c F ≡ do_store paper v (with_part M c F)
part_then_paper c F v M = go (is_global c)
  where
    go : (x : Bool) → cond x (record (do_store paper v M) { globals = F M.globals }) (record (do_store paper v M) { locals = F M.locals })
        ≡ do_store paper v (cond x (record M { globals = F M.globals }) (record M { locals = F M.locals }))
    go true = refl
    go false = refl

one_false : (a b : Bool) → (a && b) ≡ false → a ≡ true → b ≡ false
one_false true b h e = h
one_false false b h e = absurd (true≢false (sym e))

pub store_swap : (p q : Spot) (v w : Value) (M : Memory) → same_spot p q ≡ false → do_store p v (do_store q w M) ≡ do_store q w (do_store p v M)
store_swap (held c s) (held d t) v w M h =
    parts_swap c d (put_cell c (put_content s v)) (put_cell d (put_content t w)) M
    (λ m. put_swap c d (put_content s v) (put_content t w) m (λ e x. content_swap s t v w x (one_false (same_cell d c) (same_slot s t) h (subst (λ x. same_cell x c ≡ true) (cell_is c d e) (cell_itself c)))))
store_swap (byte c i) (byte d j) v w M h =
    ap (λ m. record M { strings = m })
    (put_swap c d (put_byte i v) (put_byte j w) M.strings (λ e x. byte_swap i j v w x (eqb-false i j (one_false (same_cell d c) (nat_eq i j) h (subst (λ x. same_cell x c ≡ true) (cell_is c d e) (cell_itself c))))))
store_swap rand rand v w M h = absurd (true≢false h)
store_swap paper paper v w M h = absurd (true≢false h)
store_swap (held c s) (byte d j) v w M h = part_then_strings c (put_cell c (put_content s v)) (put_cell d (put_byte j w)) M
store_swap (byte c i) (held d t) v w M h = sym (part_then_strings d (put_cell d (put_content t w)) (put_cell c (put_byte i v)) M)
store_swap (held c s) rand v w M h = part_then_rand c (put_cell c (put_content s v)) w M
store_swap rand (held d t) v w M h = sym (part_then_rand d (put_cell d (put_content t w)) v M)
store_swap (held c s) paper v w M h = part_then_paper c (put_cell c (put_content s v)) w M
store_swap paper (held d t) v w M h = sym (part_then_paper d (put_cell d (put_content t w)) v M)
store_swap (byte c i) rand v w M h = refl
store_swap (byte c i) paper v w M h = refl
store_swap rand (byte d j) v w M h = refl
store_swap rand paper v w M h = refl
store_swap paper (byte d j) v w M h = refl
store_swap paper rand v w M h = refl

pub store_over : (p : Spot) (v w : Value) (M : Memory) → is_kind p v ≡ true → do_store p v (do_store p w M) ≡ do_store p v M
store_over (held c t) v w M h = parts_over c (put_cell c (put_content t v)) (put_cell c (put_content t w)) M (λ m. put_over c (put_content t v) (put_content t w) m (λ x. content_over c t v w x h))
store_over (byte c i) v w M h = ap (λ m. record M { strings = m }) (put_over c (put_byte i v) (put_byte i w) M.strings (λ x. byte_over c i v w x h))
store_over rand (value.Rand n) w M h = refl
store_over paper (value.Paper x) w M h = refl
store_over rand _ w M h = cc
store_over paper _ w M h = cc

new_swap : (c d : Cell) (sh : Shape) (f : List ℕ → List ℕ) (m : FinMap cell_cmp (List ℕ)) → same_cell d c ≡ false → new_bytes c sh (put_cell d f m) ≡ put_cell d f (new_bytes c sh m)
new_swap c d (shape.Dict n) f m h = remove_swap c d f m
new_swap c d (shape.Array n) f m h = remove_swap c d f m
new_swap c d (shape.Str n) f m h = insert_swap c d (replicate n 0) f m h

pub fresh_swap : (c : Cell) (sh : Shape) (p : Spot) (v : Value) (M : Memory) → in_cell c p ≡ false → do_fresh c sh (do_store p v M) ≡ do_store p v (do_fresh c sh M)
fresh_swap c sh (held d t) v M h =
    (λ i. record (parts_swap c d I G M (λ m. insert_swap c d (content_of sh) (put_content t v) m h) i) { strings = new_bytes c sh (part_strings d G M i) })
    ∙ sym (part_then_strings d G (λ m. new_bytes c sh M.strings) (with_part M c I))
  where
    I : CellMap → CellMap
    I = λ m. insert m c (content_of sh)

    G : CellMap → CellMap
    G = put_cell d (put_content t v)
fresh_swap c sh (byte d i) v M h =
    (λ j. record (part_then_strings c I (put_cell d (put_byte i v)) M j) { strings = new_swap c d sh (put_byte i v) M.strings h j })
  where
    I : CellMap → CellMap
    I = λ m. insert m c (content_of sh)
fresh_swap c sh rand v M h = λ i. record (part_then_rand c (λ m. insert m c (content_of sh)) v M i) { strings = new_bytes c sh M.strings }
fresh_swap c sh paper v M h = λ i. record (part_then_paper c (λ m. insert m c (content_of sh)) v M i) { strings = new_bytes c sh M.strings }

pub save_swap : (s : SaveName) (p : Spot) (v : Value) (M : Memory) → outlives s p ≡ true → perform (save s) (do_store p v M) ≡ do_store p v (perform (save s) M)
save_swap s (held c t) v M h = go (is_global c) h
  where
    F : CellMap → CellMap
    F = put_cell c (put_content t v)

    go : (x : Bool) → x ≡ true → perform (save s) (cond x (record M { globals = F M.globals }) (record M { locals = F M.locals }))
        ≡ cond x (record (perform (save s) M) { globals = F M.globals }) (record (perform (save s) M) { locals = F M.locals })
    go true e = refl
    go false e = absurd (true≢false (sym e))
save_swap s (byte c i) v M h = refl
save_swap s rand v M h = refl
save_swap s paper v M h = refl

-- ---- no store changes a condition

slot_same : (s t : Slot) (v : Value) (x : Option Content) → is_slot (mapped (put_content s v) x) t ≡ is_slot x t
slot_same s t v None = refl
slot_same (entry k) (entry j) v (Some (dictionary n a es)) = refl
slot_same (entry k) access v (Some (dictionary n a es)) = refl
slot_same (entry k) (item j) v (Some (dictionary n a es)) = refl
slot_same (entry k) whole v (Some (dictionary n a es)) = refl
slot_same access (entry j) v (Some (dictionary n a es)) = refl
slot_same access access v (Some (dictionary n a es)) = refl
slot_same access (item j) v (Some (dictionary n a es)) = refl
slot_same access whole v (Some (dictionary n a es)) = refl
slot_same (item i) t v (Some (dictionary n a es)) = refl
slot_same whole t v (Some (dictionary n a es)) = refl
slot_same (entry k) t v (Some (items xs)) = refl
slot_same access t v (Some (items xs)) = refl
slot_same whole t v (Some (items xs)) = refl
slot_same (item i) (entry j) v (Some (items xs)) = refl
slot_same (item i) access v (Some (items xs)) = refl
slot_same (item i) (item j) v (Some (items xs)) = ap (λ n. nat_lt j n) (length_put i v xs)
slot_same (item i) whole v (Some (items xs)) = refl
slot_same (entry k) t v (Some (characters n)) = refl
slot_same access t v (Some (characters n)) = refl
slot_same (item i) t v (Some (characters n)) = refl
slot_same whole t v (Some (characters n)) = refl

byte_same : (i j : ℕ) (v : Value) (o : Option (List ℕ)) → is_byte (mapped (put_byte i v) o) j ≡ is_byte o j
byte_same i j v None = refl
byte_same i j (value.Byte n) (Some bs) = ap (λ n. nat_lt j n) (length_set bs i n)
byte_same i j _ (Some bs) = refl

pub place_store : (p q : Spot) (v : Value) (M : Memory) → is_place (do_store p v M) q ≡ is_place M q
place_store (held c s) (held d t) v M = go (same_cell d c) refl
  where
    go : (b : Bool) → same_cell d c ≡ b → is_place (do_store (held c s) v M) (held d t) ≡ is_place M (held d t)
    go true e = subst (λ d. is_place (do_store (held c s) v M) (held d t) ≡ is_place M (held d t)) (sym (cell_is d c e)) (ap (λ o. is_slot o t) (held_store c s v M) ∙ slot_same s t v (get (part M c) c))
    go false e = ap (λ o. is_slot o t) (part_other c d (put_cell c (put_content s v)) M (λ m. put_at c d (put_content s v) m ∙ ap (λ b. cond b (mapped (put_content s v) (get m d)) (get m d)) e))
place_store (byte c i) (byte d j) v M = ap (λ o. is_byte o j) (put_at c d (put_byte i v) M.strings) ∙ go (same_cell d c)
  where
    go : (b : Bool) → is_byte (cond b (mapped (put_byte i v) (get M.strings d)) (get M.strings d)) j ≡ is_byte (get M.strings d) j
    go true = byte_same i j v (get M.strings d)
    go false = refl
place_store (held c s) (byte d j) v M = ap (λ m. is_byte (get m d) j) (part_strings c (put_cell c (put_content s v)) M)
place_store (held c s) rand v M = refl
place_store (held c s) paper v M = refl
place_store (byte c i) (held d t) v M = refl
place_store (byte c i) rand v M = refl
place_store (byte c i) paper v M = refl
place_store rand (held d t) v M = refl
place_store rand (byte d j) v M = refl
place_store rand rand v M = refl
place_store rand paper v M = refl
place_store paper (held d t) v M = refl
place_store paper (byte d j) v M = refl
place_store paper rand v M = refl
place_store paper paper v M = refl

pub place_fresh : (c : Cell) (sh : Shape) (p : Spot) (M : Memory) → in_cell c p ≡ false → is_place (do_fresh c sh M) p ≡ is_place M p
place_fresh c sh (held d t) M h = ap (λ o. is_slot o t) (part_other c d (λ m. insert m c (content_of sh)) M (λ m. insert_other c d (content_of sh) m h))
place_fresh c sh (byte d j) M h = ap (λ o. is_byte o j) (string_fresh_other c d sh M.strings h)
place_fresh c sh rand M h = refl
place_fresh c sh paper M h = refl

pub place_save : (s : SaveName) (p : Spot) (M : Memory) → is_place (perform (save s) M) p ≡ is_place M p
place_save s (held d t) M = refl
place_save s (byte d j) M = refl
place_save s rand M = refl
place_save s paper M = refl

string_none : (p : Spot) (v : Value) (M : Memory) (c : Cell) → get M.strings c ≡ None → get (do_store p v M).strings c ≡ None
string_none (held d t) v M c e = ap (λ m. get m c) (part_strings d (put_cell d (put_content t v)) M) ∙ e
string_none (byte d j) v M c e = put_at d c (put_byte j v) M.strings ∙ ap (λ o. cond (same_cell c d) (mapped (put_byte j v) o) o) e ∙ go (same_cell c d)
  where
    go : (b : Bool) → cond b (mapped (put_byte j v) None) None ≡ None
    go true = refl
    go false = refl
string_none rand v M c e = e
string_none paper v M c e = e

pub allowed_store : (w : Action) (p : Spot) (v : Value) (M : Memory) → is_write w ≡ true → is_place M p ≡ true → Allowed w M → Allowed w (do_store p v M)
allowed_store (store k u) p v M i h a = (place_store p (spot_of k) v M ∙ a.0, a.1)
allowed_store (fresh c sh) p v M i h a = (
  λ d x y. ap shape_in (store_other p (held d whole) v M (no_shape p M d h)) ∙ a.0 d x y,
  λ g. subst (AllByRecursion (λ k. newer c k.0 ≡ true)) (sym (kept_store p v M)) (a.1 g),
)
allowed_store (save s) p v M i h a = (
  λ c n. (ap shape_in (store_other p (held c whole) v M (no_shape p M c h)) ∙ (a.0 c n).0, string_none p v M c (a.0 c n).1),
  subst (AllByRecursion (λ k. later s k.0 ≡ true)) (sym (kept_store p v M)) a.1,
)
allowed_store (restore s) p v M i h a = absurd (true≢false (sym i))
allowed_store (tell o) p v M i h a = absurd (true≢false (sym i))

-- ---- a store that takes an earlier one's place

abbrev pub saves_in : List Action → List SaveName
saves_in [] = []
saves_in (save r ∷ ws) = r ∷ saves_in ws
saves_in (_ ∷ ws) = saves_in ws

-- the writes us do what ws and then a store do
pub record Does (l : Loc) (v : Value) (ws us : List Action) (N : Memory) : Type 0 where
  pub same : apply us N ≡ do_store (spot_of l) v (apply ws N)
  pub applicable : Applicable us N
  pub saves : saves_in us ≡ saves_in ws

abbrev IfFound : Loc → Value → List Action → Memory → Option (List Action) → Type 0
IfFound l v ws N None = ⊤
IfFound l v ws N (Some us) = Does l v ws us N

in_place : (l : Loc) (v : Value) (ws : List Action) (N : Memory) → Applicable ws N → is_place (apply ws N) (spot_of l) ≡ true → is_kind (spot_of l) v ≡ true → IfFound l v ws N (store_replaced l v ws)
in_place l v [] N f h i = tt
in_place l v (store k w ∷ ws) N f h i = go (same_spot (spot_of k) (spot_of l)) refl (λ here. in_place l v ws N f.2 here i)
  where
    M : Memory
    M = apply ws N

    here : is_place M (spot_of l) ≡ true
    here = sym (place_store (spot_of k) (spot_of l) w M) ∙ h

    passed : same_spot (spot_of k) (spot_of l) ≡ false → (o : Option (List Action)) → IfFound l v ws N o → IfFound l v (store k w ∷ ws) N (option_map (λ us. store k w ∷ us) o)
    passed e None g = tt
    passed e (Some us) g = record {
      same = ap (do_store (spot_of k) w) g.same ∙ store_swap (spot_of k) (spot_of l) w v M e;
      applicable = (refl, subst (Allowed (store k w)) (sym g.same) (allowed_store (store k w) (spot_of l) v M refl here f.1), g.applicable);
      saves = g.saves;
    }

    go : (b : Bool) → same_spot (spot_of k) (spot_of l) ≡ b → (is_place (apply ws N) (spot_of l) ≡ true → IfFound l v ws N (store_replaced l v ws)) → IfFound l v (store k w ∷ ws) N (cond b (Some (store k v ∷ ws)) (option_map (λ us. store k w ∷ us) (store_replaced l v ws)))
    go true e ih =
        let p = spot_is (spot_of k) (spot_of l) e in
        record {
          same = ap (λ q. do_store q v M) p ∙ sym (store_over (spot_of l) v w M i) ∙ ap (λ q. do_store (spot_of l) v (do_store q w M)) (sym p);
          applicable = (refl, (ap (is_place M) p ∙ here, ap (λ q. is_kind q v) p ∙ i), f.2);
          saves = refl;
        }
    go false e ih = passed e (store_replaced l v ws) (ih here)
in_place l v (fresh c sh ∷ ws) N f h i = go (in_cell c (spot_of l)) refl (λ here. in_place l v ws N f.2 here i)
  where
    M : Memory
    M = apply ws N

    passed : in_cell c (spot_of l) ≡ false → is_place M (spot_of l) ≡ true → (o : Option (List Action)) → IfFound l v ws N o → IfFound l v (fresh c sh ∷ ws) N (option_map (λ us. fresh c sh ∷ us) o)
    passed e here None g = tt
    passed e here (Some us) g = record {
      same = ap (do_fresh c sh) g.same ∙ fresh_swap c sh (spot_of l) v M e;
      applicable = (refl, subst (Allowed (fresh c sh)) (sym g.same) (allowed_store (fresh c sh) (spot_of l) v M refl here f.1), g.applicable);
      saves = g.saves;
    }

    go : (b : Bool) → in_cell c (spot_of l) ≡ b → (is_place (apply ws N) (spot_of l) ≡ true → IfFound l v ws N (store_replaced l v ws)) → IfFound l v (fresh c sh ∷ ws) N (cond b None (option_map (λ us. fresh c sh ∷ us) (store_replaced l v ws)))
    go true e ih = tt
    go false e ih = let here = sym (place_fresh c sh (spot_of l) M e) ∙ h in passed e here (store_replaced l v ws) (ih here)
in_place l v (save s ∷ ws) N f h i = go (outlives s (spot_of l)) refl (λ here. in_place l v ws N f.2 here i)
  where
    M : Memory
    M = apply ws N

    here : is_place M (spot_of l) ≡ true
    here = sym (place_save s (spot_of l) M) ∙ h

    passed : outlives s (spot_of l) ≡ true → (o : Option (List Action)) → IfFound l v ws N o → IfFound l v (save s ∷ ws) N (option_map (λ us. save s ∷ us) o)
    passed e None g = tt
    passed e (Some us) g = record {
      same = ap (perform (save s)) g.same ∙ save_swap s (spot_of l) v M e;
      applicable = (refl, subst (Allowed (save s)) (sym g.same) (allowed_store (save s) (spot_of l) v M refl here f.1), g.applicable);
      saves = ap (λ rs. s ∷ rs) g.saves;
    }

    go : (b : Bool) → outlives s (spot_of l) ≡ b → (is_place (apply ws N) (spot_of l) ≡ true → IfFound l v ws N (store_replaced l v ws)) → IfFound l v (save s ∷ ws) N (cond b (option_map (λ us. save s ∷ us) (store_replaced l v ws)) None)
    go true e ih = passed e (store_replaced l v ws) (ih here)
    go false e ih = tt
in_place l v (restore s ∷ ws) N f h i = tt
in_place l v (tell o ∷ ws) N f h i = tt

pub noted_store : (l : Loc) (v : Value) (ws : List Action) (N : Memory) → Applicable ws N → Allowed (store l v) (apply ws N) → Does l v ws (note (store l v) ws) N
noted_store l v ws N f a = go (store_replaced l v ws) (in_place l v ws N f a.0 a.1)
  where
    go : (o : Option (List Action)) → IfFound l v ws N o → Does l v ws (elim o as (λ _. List Action) [ None ↦ store l v ∷ ws | Some us ↦ us ]) N
    go None g = record { same = refl; applicable = (refl, a, f); saves = refl }
    go (Some us) g = g

pub replacing_law : ReplacingLaw
replacing_law l v ws M f a = let d = noted_store l v ws M f a in (d.same, d.applicable)

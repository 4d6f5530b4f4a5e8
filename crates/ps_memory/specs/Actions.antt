-- What is done to memory.
use Rattle.std.specs.Prelude.{ℕ, false, cond, not, List, [], ◌∷◌, Option, Some, None, slice_set, length, replicate}
use Rattle.std.specs.FinMap.{FinMap, get, insert, remove, retain_keys, empty}
use Rattle.ps_shapes.specs.Sheet.{Sheet, drawn}
use Rattle.ps_objects.specs.declared.access.Access.{Access}
use Rattle.ps_objects.specs.declared.access.Access.TheVariants.{Unlimited}
use Rattle.ps_objects.specs.declared.cell.Cell.{Cell}
use Rattle.ps_objects.specs.declared.cell.SaveName.{SaveName}
use Rattle.ps_objects.specs.declared.key.Key.{Key}
use Rattle.ps_objects.specs.declared.object.Object.{Object}
use Rattle.ps_objects.specs.declared.object.Kind.TheVariants as kind
use Rattle.ps_objects.specs.declared.place.Loc.{Loc}
use Rattle.ps_objects.specs.declared.place.Value.{Value}
use Rattle.ps_objects.specs.declared.place.Value.TheVariants as value
use Rattle.ps_objects.specs.declared.place.Shape.{Shape}
use Rattle.ps_objects.specs.declared.place.Shape.TheVariants as shape
use Rattle.ps_memory.specs.Order.{cell_cmp, key_cmp}
use Rattle.ps_objects.specs.Cell.{is_global, newer}
use Rattle.ps_memory.specs.State.{same_save, Content, CellMap, Page, Memory, dictionary, items, characters, here, out}
use Rattle.ps_memory.specs.Places.{Slot, Spot, spot_of, part, at, entry, access, item, held, byte, rand, paper, is}

-- a page that is given out, or the bytes of a message
pub data Output : Type 0 where
  picture : Sheet → Output
  message : List ℕ → Output

-- what is done to memory: a store, which of the absent value takes an entry away; a new cell; a save, a restore; an output, which leaves it
pub data Action : Type 0 where
  store : Loc → Value → Action
  fresh : Cell → Shape → Action
  save : SaveName → Action
  restore : SaveName → Action
  tell : Output → Action

-- the entries with a value under a key, or without the key
abbrev pub put_entry : Key → Value → FinMap key_cmp Object → FinMap key_cmp Object
put_entry k value.Absent es = remove es k
put_entry k (value.Object x) es = insert es k x
put_entry k _ es = es

-- the access that is put, if one is
abbrev pub put_access : Value → Access → Access
put_access (value.Access a) old = a
put_access _ old = old

-- the items with an object at a place, if one is put
abbrev pub put_item : ℕ → Value → List Object → List Object
put_item i (value.Object x) xs = slice_set xs i x
put_item i _ xs = xs

-- what a cell holds with a value at a slot; a value of another kind changes nothing
abbrev pub put_content : Slot → Value → Content → Content
put_content (entry k) v (dictionary n a es) = dictionary n a (put_entry k v es)
put_content access v (dictionary n a es) = dictionary n (put_access v a) es
put_content (item i) v (items xs) = items (put_item i v xs)
put_content _ v x = x

-- the bytes with one at a place, if one is put
abbrev pub put_byte : ℕ → Value → List ℕ → List ℕ
put_byte i (value.Byte n) bs = slice_set bs i n
put_byte i _ bs = bs

-- the state that is put, if one is
abbrev pub put_rand : Value → ℕ → ℕ
put_rand (value.Rand n) old = n
put_rand _ old = old

-- the paper that is put, if one is
abbrev pub put_page : Value → Page → Page
put_page (value.Paper p) old = here p
put_page _ old = old

-- a map with what a cell holds changed, where the cell stands
abbrev pub put_cell : {X : Type 0} → Cell → (X → X) → FinMap cell_cmp X → FinMap cell_cmp X
put_cell c f m = elim (get m c) [ None ↦ m | Some x ↦ insert m c (f x) ]

-- memory with the part to which a cell belongs changed
abbrev pub with_part : Memory → Cell → (CellMap → CellMap) → Memory
with_part M c f = cond (is_global c) (record M { globals = f M.globals }) (record M { locals = f M.locals })

-- memory with a value at a spot
abbrev pub do_store : Spot → Value → Memory → Memory
do_store (held c t) v M = with_part M c (put_cell c (put_content t v))
do_store (byte c i) v M = record M { strings = put_cell c (put_byte i v) M.strings }
do_store rand v M = record M { rand = put_rand v M.rand }
do_store paper v M = record M { page = put_page v M.page }

-- the null object, literal and with unlimited access
abbrev pub null_object : Object
null_object = record { kind = kind.Null; exec = false; access = Unlimited }

-- what a new cell holds: no entries and unlimited access; nulls; a string's length
abbrev pub content_of : Shape → Content
content_of (shape.Dict n) = dictionary n Unlimited empty
content_of (shape.Array n) = items (replicate n null_object)
content_of (shape.Str n) = characters n

-- the bytes with those of a new cell: zeros for a string, and none for others
abbrev pub new_bytes : Cell → Shape → FinMap cell_cmp (List ℕ) → FinMap cell_cmp (List ℕ)
new_bytes c (shape.Dict n) m = remove m c
new_bytes c (shape.Array n) m = remove m c
new_bytes c (shape.Str n) m = insert m c (replicate n 0)

-- memory with a new cell
abbrev pub do_fresh : Cell → Shape → Memory → Memory
do_fresh c sh M = record (with_part M c (λ m. insert m c (content_of sh))) { strings = new_bytes c sh M.strings }

-- the copy that a save of this name keeps, if one is open
abbrev pub copy_named : SaveName → List (SaveName × CellMap) → Option CellMap
copy_named s [] = None
copy_named s (k ∷ kept) = cond (same_save s k.0) (Some k.1) (copy_named s kept)

-- the copies that saves older than the one of this name keep
abbrev pub older_than : SaveName → List (SaveName × CellMap) → List (SaveName × CellMap)
older_than s [] = []
older_than s (k ∷ kept) = cond (same_save s k.0) kept (older_than s kept)

-- Memory with a copy, if one is there, in the local part's place. The bytes of strings that are newer than the save go, and those of others
-- stay (section 3.7.3 of the language manual: save and restore).
abbrev pub do_restore : SaveName → Option CellMap → Memory → Memory
do_restore s None M = M
do_restore s (Some copy) M =
    record M { locals = copy; strings = retain_keys M.strings (λ c. not (newer c s)); kept = older_than s M.kept }

-- memory after an action
abbrev pub perform : Action → Memory → Memory
perform (store l v) M = do_store (spot_of l) v M
perform (fresh c sh) M = do_fresh c sh M
perform (save s) M = record M { kept = (s, M.locals) ∷ M.kept }
perform (restore s) M = do_restore s (copy_named s M.kept) M
perform (tell o) M = M

-- white paper of a size in pixels
abbrev pub blank : ℕ → ℕ → Sheet
blank width height = drawn width height (λ _ _. false)

-- the paper as an operator takes it in its hands: its size is left
abbrev pub page_out : Page → Page
page_out (here p) = out p.width p.height
page_out (out w h) = out w h

-- memory while an operator has the paper in its hands
abbrev pub lift : Memory → Memory
lift M = record M { page = page_out M.page }

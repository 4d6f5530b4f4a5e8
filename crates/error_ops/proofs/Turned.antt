-- A stack seen from its bottom.
use Rattle.std.proofs.Common.{◌≡◌, ℕ, ◌+◌, ◌-◌, ◌<◌, List, drop, length, Some, slice_get, sym, ap, ◌∙◌, arith}
use Rattle.std.specs.Prelude.{reverse, get_or}
use Rattle.std.proofs.lemmas.List.{get_or-reverse, length-reverse}
use Rattle.std.proofs.lemmas.Option.{get_or_from_slice_get, slice_get-get_or, slice_get-map}
use Rattle.std.specs.Prelude.{option_map}
use Rattle.std.proofs.lemmas.List.{length-map}
use Rattle.ps_objects.specs.declared.cell.Cell.{Cell}
use Rattle.ps_objects.specs.declared.object.Kind.TheVariants as kind
use Rattle.ps_objects.specs.declared.object.Object.{Object}
use Rattle.ps_objects.specs.declared.objects.Interval.{Interval}
use Rattle.ps_objects.specs.declared.place.Loc.TheVariants as loc
use Rattle.ps_objects.specs.declared.place.Value.TheVariants as value
use Rattle.ps_memory.specs.Memory.{store}
use Rattle.ps_meaning.specs.Answer.{Log, acted_in, changed_in}
use Rattle.ps_operator.specs.Registers.{literal}
use Rattle.ps_operator.specs.Storing.{item_stores}
use Rattle.ps_operator.proofs.StoreSteps.{item_step, item_end}
use Rattle.error_ops.specs.Recording.{dict_objects}

-- what is i above the bottom
pub from_bottom : {A : Type 0} (xs : List A) (i n : ℕ) (x : A) → n ≡ length xs → i < n → slice_get xs (n - 1 - i) ≡ Some x → slice_get (reverse xs) i ≡ Some x
from_bottom xs i n x p h e =
    let l : i < length (reverse xs) = rw length-reverse (omega (arith, p, h)) in
    slice_get-get_or (reverse xs) i x l ∙ ap Some (get_or-reverse xs i x (omega (arith, p, h)) ∙ ap (λ m. get_or xs (m - 1 - i) x) (sym p) ∙ get_or_from_slice_get xs (n - 1 - i) x x e)

counted : (ds : List Cell) → length (dict_objects ds) ≡ length ds
counted ds = length-map ds (λ d. literal (kind.Dict d))

none : (i : ℕ) → 0 + i ≡ i
none i = omega arith

-- the same of a dictionary, as an object
pub dict_from_bottom : (ds : List Cell) (i n : ℕ) (d : Cell) → n ≡ length ds → i < n → slice_get ds (n - 1 - i) ≡ Some d → slice_get (reverse (dict_objects ds)) i ≡ Some (literal (kind.Dict d))
dict_from_bottom ds i n d p h e =
    from_bottom (dict_objects ds) i n (literal (kind.Dict d)) (p ∙ sym (counted ds)) h (slice_get-map (λ c. literal (kind.Dict c)) ds (n - 1 - i) ∙ ap (option_map (λ c. literal (kind.Dict c))) e)

drop_all : {A : Type 0} (xs : List A) (i n : ℕ) → n ≡ length xs → i ≡ n → i ≡ length (reverse xs)
drop_all xs i n p q = q ∙ p ∙ sym (length-reverse xs)

pub stack_step : (a : Interval) (i n : ℕ) (xs : List Object) (x : Object) (log new : Log) → n ≡ length xs → i < n → slice_get xs (n - 1 - i) ≡ Some x
    → new ≡ acted_in log (store (loc.Item a.cell (a.start + i)) (value.Object x))
    → changed_in log (item_stores a i (drop i (reverse xs))) ≡ changed_in new (item_stores a (i + 1) (drop (i + 1) (reverse xs)))
stack_step a i n xs x log new p h e g =
    ap (λ m. changed_in log (item_stores a m (drop i (reverse xs)))) (sym (none i))
    ∙ item_step a 0 i (reverse xs) x log new (from_bottom xs i n x p h e) (g ∙ ap (λ m. acted_in log (store (loc.Item a.cell (a.start + m)) (value.Object x))) (sym (none i)))
    ∙ ap (λ m. changed_in new (item_stores a m (drop (i + 1) (reverse xs)))) (none (i + 1))

pub stack_end : (a : Interval) (i n : ℕ) (xs : List Object) (log : Log) → n ≡ length xs → i ≡ n → changed_in log (item_stores a i (drop i (reverse xs))) ≡ log
stack_end a i n xs log p q = ap (λ m. changed_in log (item_stores a m (drop i (reverse xs)))) (sym (none i)) ∙ item_end a 0 i (reverse xs) log (drop_all xs i n p q)

pub dicts_step : (a : Interval) (i n : ℕ) (ds : List Cell) (d : Cell) (log new : Log) → n ≡ length ds → i < n → slice_get ds (n - 1 - i) ≡ Some d
    → new ≡ acted_in log (store (loc.Item a.cell (a.start + i)) (value.Object (literal (kind.Dict d))))
    → changed_in log (item_stores a i (drop i (reverse (dict_objects ds)))) ≡ changed_in new (item_stores a (i + 1) (drop (i + 1) (reverse (dict_objects ds))))
dicts_step a i n ds d log new p h e g =
    ap (λ m. changed_in log (item_stores a m (drop i (reverse (dict_objects ds))))) (sym (none i))
    ∙ item_step a 0 i (reverse (dict_objects ds)) (literal (kind.Dict d)) log new (dict_from_bottom ds i n d p h e) (g ∙ ap (λ m. acted_in log (store (loc.Item a.cell (a.start + m)) (value.Object (literal (kind.Dict d))))) (sym (none i)))
    ∙ ap (λ m. changed_in new (item_stores a m (drop (i + 1) (reverse (dict_objects ds))))) (none (i + 1))

pub dicts_end : (a : Interval) (i n : ℕ) (ds : List Cell) (log : Log) → n ≡ length ds → i ≡ n → changed_in log (item_stores a i (drop i (reverse (dict_objects ds)))) ≡ log
dicts_end a i n ds log p q = stack_end a i n (dict_objects ds) log (p ∙ sym (counted ds)) q

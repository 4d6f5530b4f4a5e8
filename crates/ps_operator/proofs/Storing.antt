-- Stores along an interval keep what fits.
use Rattle.std.proofs.Common.{◌≡◌, ℕ, zero, suc, ℤ, pos, negsuc, ◌+◌, ◌<◌, ◌≤◌, Bool, true, false, cond, nat_lt, List, [], ◌∷◌, length, Result, Ok, Err, refl, subst, arith}
use Rattle.std.specs.List.{AllByRecursion}
use Rattle.ps_names.specs.declared.error_name.ErrorName.{ErrorName}
use Rattle.ps_names.specs.declared.error_name.ErrorName.TheVariants.{LimitCheck, RangeCheck}
use Rattle.ps_objects.specs.declared.object.Object.{Object}
use Rattle.ps_objects.specs.declared.objects.Interval.{Interval}
use Rattle.ps_objects.specs.Object.{cell_named}
use Rattle.ps_memory.specs.Memory.{is_global}
use Rattle.ps_meaning.specs.Fits.{lies_within, value_is_shared}
use Rattle.ps_meaning.specs.Sound.{World}
use Rattle.ps_operator.specs.Lawful.{HasBytes, HasItems, Changes}
use Rattle.ps_operator.specs.Numbers.{length_of}
use Rattle.ps_operator.specs.Storing.{space_in, byte_stores, item_stores}
use Rattle.ps_operator.proofs.Fitting.{Fit}

there : (start len size from n : ℕ) → lies_within start len size ≡ true → from + suc n ≤ len → start + from < size
there start len size from n h l = grind arith

byte_kind : (b : ℕ) → b < 256 → nat_lt b 256 ≡ true
byte_kind b h = grind arith

next_within : (from n len : ℕ) → from + suc n ≤ len → from + 1 + n ≤ len
next_within from n len l = omega arith

pub bytes_change : (W : World) (n : ℕ) (Q : World → Type 0) (a : Interval) → HasBytes W.shapes a → (from : ℕ) (bs : List ℕ) → from + length bs ≤ a.len → AllByRecursion (λ b. b < 256) bs → Q W → Changes (byte_stores a from bs) W n Q
unfolding byte_stores
bytes_change W n Q a h from [] l g q = q
bytes_change W n Q a h from (b ∷ bs) l g q =
    ((h.size, h.stands, there a.start a.len h.size from (length bs) h.within l), byte_kind b g.0, tt, tt, bytes_change W n Q a h (from + 1) bs (next_within from (length bs) a.len l) g.1 q)

-- no object names a local cell where the array is global
abbrev pub AreShared : Interval → List Object → Type 0
AreShared a = AllByRecursion (λ x. is_global a.cell ≡ true → value_is_shared a.cell (cell_named x.kind) ≡ true)

pub items_change : (W : World) (n : ℕ) (Q : World → Type 0) (a : Interval) → HasItems W.shapes a → (from : ℕ) (xs : List Object) → from + length xs ≤ a.len → Fit W.shapes xs → AreShared a xs → Q W → Changes (item_stores a from xs) W n Q
unfolding item_stores
items_change W n Q a h from [] l g s q = q
items_change W n Q a h from (x ∷ xs) l g s q =
    ((h.size, h.stands, there a.start a.len h.size from (length xs) h.within l), refl, g.0, s.0, items_change W n Q a h (from + 1) xs (next_within from (length xs) a.len l) g.1 s.1 q)

-- ---- what numbers that were read lie below

space_by : (len n i m : ℕ) (t : Bool) → nat_lt len (i + n) ≡ t → cond {A = Result ℕ ErrorName} t (Err RangeCheck) (Ok i) ≡ Ok m → m + n ≤ len
space_by len n i m true p q = cc
space_by len n i m false p q = let e : i ≡ m = cc in subst (λ m. m + n ≤ len) e (grind arith)

pub space_within : (len n : ℕ) (i : ℤ) (m : ℕ) → space_in len n i ≡ Ok m → m + n ≤ len
space_within len n (pos i) m e = space_by len n i m (nat_lt len (i + n)) refl e
space_within len n (negsuc i) m e = cc

length_by : (n m : ℕ) (t : Bool) → nat_lt 65535 n ≡ t → cond {A = Result ℕ ErrorName} t (Err LimitCheck) (Ok n) ≡ Ok m → m < 4294967296
length_by n m true p q = cc
length_by n m false p q = let e : n ≡ m = cc in subst (λ m. m < 4294967296) e (grind arith)

pub length_below : (n m : ℕ) → length_of n ≡ Ok m → m < 4294967296
length_below n m e = length_by n m (nat_lt 65535 n) refl e

-- a new array or string is whole
pub whole_lies : (n : ℕ) → n < 4294967296 → lies_within 0 n n ≡ true
whole_lies n h = grind arith

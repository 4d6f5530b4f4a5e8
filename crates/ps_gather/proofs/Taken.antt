-- Strings and braces, which take cells.
use Rattle.std.proofs.Common.{◌≡◌, ℕ, suc, ◌+◌, ◌<◌, ◌≤◌, Bool, true, false, cond, nat_lt, nat_le, List, [], ◌∷◌, ◌++◌, length, map, reverse, Some, None, refl, sym, ap, ◌∙◌, subst, arith}
use Rattle.std.proofs.lemmas.List.{length-reverse, reverse-reverse, length-append}
use Rattle.ps_names.specs.declared.error_name.ErrorName.TheVariants.{LimitCheck, SyntaxError, VmError}
use Rattle.ps_objects.specs.Object.{whole_of}
use Rattle.ps_objects.specs.declared.object.Kind.TheVariants as kinds
use Rattle.ps_objects.specs.declared.object.Object.{Object}
use Rattle.ps_objects.specs.declared.section.SectionKind.{SectionKind}
use Rattle.ps_objects.specs.declared.section.SectionKind.TheVariants.{Prolog, Setup, Page, Trailer}
use Rattle.ps_kinds.specs.declared.state.State.{State}
use Rattle.ps_meaning.specs.Budgets.{unit_budget}
use Rattle.ps_memory.specs.Tree.{Application}
use Rattle.ps_meaning.specs.Start.{literal}
use Rattle.ps_execution.specs.Gather as meaning
use Rattle.ps_execution.specs.Gather.{Onward, scanned, bad, string_units, body_object}
use Rattle.ps_gather.specs.Cells.{cell_at, IsSmall, AreSmall, made_of, changes_of}
use Rattle.ps_gather.specs.Gathered.{told, with_brace, IsGathered, Is}
use Rattle.ps_gather.specs.declared.cells.Content.{Content}
use Rattle.ps_gather.specs.declared.cells.Content.TheVariants.{Bytes, Items}
use Rattle.ps_gather.specs.declared.gathering.Gathering.{Gathering}
use Rattle.ps_gather.specs.declared.spelt.Spelt.TheVariants as spelt
use Rattle.ps_gather.proofs.CellLemmas.{cells_more}

-- ---- room for names

budget_small : (k : SectionKind) → unit_budget k ≤ 8000000
budget_small Prolog = omega arith
budget_small Setup = omega arith
budget_small Page = omega arith
budget_small Trailer = omega arith

pub few : (k : SectionKind) (n : ℕ) (g : Gathering) → IsGathered k n g → length g.cells ≤ 8000000 + n
few k n g r =
    let a : length g.cells ≤ g.units + n = r.paid in
    let b : g.units ≤ unit_budget k = r.units in
    let d = budget_small k in
    omega (arith, a, b, d)

pub room : (k : SectionKind) (g : Gathering) → IsGathered k 0 g → length g.cells ≤ 8000000
room k g r = let a = few k 0 g r in omega (arith, a)

pub room_beside : (k : SectionKind) (items : List Object) (g : Gathering) → IsGathered k 0 (with_brace items g) → length g.cells ≤ 8000000
room_beside k items g r = room k (with_brace items g) r

pub more_kept : (k : SectionKind) (g : Gathering) → IsGathered k 0 g → IsGathered k 1 g
more_kept k g r = record { cells = r.cells; braces = r.braces; paid = let p : length g.cells ≤ g.units + 0 = r.paid in omega (arith, p); units = r.units }

within : (a b : ℕ) → nat_le a b ≡ true → a ≤ b
within a b h = grind arith

not_within : (a b : ℕ) → b ≤ a → nat_lt a b ≡ false
not_within a b h = grind arith

less : (a b : ℕ) → a < b → nat_lt a b ≡ true
less a b h = grind arith

all_more : (xs : List Content) (x : Content) → AreSmall xs → IsSmall x → AreSmall (xs ++ x ∷ [])
all_more [] x h k = (k, tt)
all_more (y ∷ ys) x h k = (h.0, all_more ys x h.1 k)

-- with one more cell, and with n more units
abbrev pub with_cell : Content → ℕ → Gathering → Gathering
with_cell x n g = record { cells = g.cells ++ x ∷ []; units = g.units + n; braces = g.braces }

cell_kept : (k : SectionKind) (x : Content) (n : ℕ) (g : Gathering) → IsSmall x → g.units + n ≤ unit_budget k → IsGathered k 0 g → IsGathered k 1 (with_cell x n g)
cell_kept k x n g h e r = record {
  cells = all_more g.cells x r.cells h;
  braces = r.braces;
  paid = let p : length g.cells ≤ g.units + 0 = r.paid in let q : length (g.cells ++ x ∷ []) ≡ length g.cells + 1 = length-append g.cells (x ∷ []) in omega (arith, p, q);
  units = e;
}

-- what was gathered, with one more cell
told_more : (s : State) (x : Content) (n : ℕ) (g : Gathering)
    → record (told s g) { changes = changes_of s 0 g.cells ++ made_of (cell_at s (length g.cells)) x; made = suc (length g.cells); units = g.units + n } ≡ told s (with_cell x n g)
told_more s x n g =
    ap (λ ws. record (told s g) { changes = ws; made = suc (length g.cells); units = g.units + n }) (ap (λ m. changes_of s 0 g.cells ++ made_of (cell_at s m) x) (none (length g.cells)) ∙ sym (cells_more s 0 g.cells x))
    ∙ ap (λ m. record (told s g) { changes = changes_of s 0 (g.cells ++ x ∷ []); made = m; units = g.units + n }) longer
  where
    none : (n : ℕ) → n ≡ 0 + n
    none n = omega arith

    longer : suc (length g.cells) ≡ length (g.cells ++ x ∷ [])
    longer = let q : length (g.cells ++ x ∷ []) ≡ length g.cells + 1 = length-append g.cells (x ∷ []) in omega (arith, q)

-- ---- strings

module _ (s : State) (bs : List ℕ) (g : Gathering) where
  abbrev units : ℕ
  units = string_units (length bs)

  abbrev spent : Bool
  spent = nat_le (g.units + units) (unit_budget s.kind)

  abbrev string : Object
  string = literal (kinds.Str (whole_of (cell_at s (length g.cells)) (length bs)))

  pub string_kept : length bs ≤ 65535 → spent ≡ true → IsGathered s.kind 0 g → IsGathered s.kind 1 (with_cell (Bytes bs) units g)
  string_kept h e r = cell_kept s.kind (Bytes bs) units g h (within (g.units + units) (unit_budget s.kind) e) r

  pub string_is : spent ≡ true → (k : Onward) (place : ℕ) → meaning.gather_string k s bs place (told s g) ≡ meaning.complete k s string place (told s (with_cell (Bytes bs) units g))
  string_is e k place =
      ap (λ b. cond b (meaning.complete k s string place (meaning.with_string (cell_at s (length g.cells)) bs units (told s g))) (scanned (bad VmError) place (told s g))) e
      ∙ ap (meaning.complete k s string place) (told_more s (Bytes bs) units g)

  pub string_dear : spent ≡ false → Is (λ k place. meaning.gather_string k s bs place (told s g)) s (Some (spelt.Bad VmError)) g
  string_dear e k place = ap (λ b. cond b (meaning.complete k s string place (meaning.with_string (cell_at s (length g.cells)) bs units (told s g))) (scanned (bad VmError) place (told s g))) e

-- ---- braces

length_map : (xs : List (List Object)) → length (map reverse xs) ≡ length xs
length_map [] = refl
length_map (x ∷ xs) = ap suc (length_map xs)

module _ (s : State) (g : Gathering) where
  abbrev deep : (k : Onward) (place : ℕ) → Bool → Application meaning.Scanned
  deep k place b = cond b (k place (record (told s g) { open_braces = [] ∷ map reverse g.braces })) (scanned (bad LimitCheck) place (told s g))

  pub begun_is : length g.braces < 1000 → Is (λ k place. meaning.open_brace k place (told s g)) s None (with_brace [] g)
  begun_is h k place = ap (deep k place) (ap (λ n. nat_lt n 1000) (length_map g.braces) ∙ less (length g.braces) 1000 h)

  pub deep_is : 1000 ≤ length g.braces → Is (λ k place. meaning.open_brace k place (told s g)) s (Some (spelt.Bad LimitCheck)) g
  deep_is h k place = ap (deep k place) (ap (λ n. nat_lt n 1000) (length_map g.braces) ∙ not_within (length g.braces) 1000 h)

  pub begun_kept : (k : SectionKind) → IsGathered k 0 g → IsGathered k 0 (with_brace [] g)
  begun_kept k r = record { cells = r.cells; braces = (omega arith, r.braces); paid = r.paid; units = r.units }

  pub unmatched_is : g.braces ≡ [] → Is (λ k place. meaning.close_brace k s place (told s g)) s (Some (spelt.Bad SyntaxError)) g
  unmatched_is e k place = ap (λ (xs : List (List Object)). meaning.close_in k s place (told s g) (map reverse xs)) e

module _ (s : State) (items : List Object) (g : Gathering) where
  abbrev made : Gathering
  made = with_cell (Items items) 0 g

  same_units : (n : ℕ) → n + 0 ≡ n
  same_units n = omega arith

  pub body_kept : IsGathered s.kind 0 (with_brace items g) → IsGathered s.kind 1 (record g { cells = g.cells ++ Items items ∷ [] })
  body_kept r = subst (λ n. IsGathered s.kind 1 (record made { units = n })) (same_units g.units) (cell_kept s.kind (Items items) 0 g r.braces.0 (subst (λ n. n ≤ unit_budget s.kind) (sym (same_units g.units)) r.units)
      (record { cells = r.cells; braces = r.braces.1; paid = r.paid; units = r.units }))

  abbrev array_in : List Object → meaning.Gathering
  array_in xs = record (meaning.with_array (cell_at s (length g.cells)) xs (told s (with_brace items g))) { open_braces = map reverse g.braces }

  abbrev array_object : ℕ → Object
  array_object n = body_object (cell_at s (length g.cells)) n s.regs.packing

  pub body_is : (k : Onward) (place : ℕ) → meaning.close_brace k s place (told s (with_brace items g))
      ≡ meaning.complete k s (array_object (length items)) place (told s (record g { cells = g.cells ++ Items items ∷ [] }))
  body_is k place =
      ap (λ n. meaning.complete k s (array_object n) place (array_in (reverse (reverse items)))) (length-reverse items)
      ∙ ap (λ xs. meaning.complete k s (array_object (length items)) place (array_in xs)) (reverse-reverse items)
      ∙ ap (λ n. meaning.complete k s (array_object (length items)) place (record (array_in items) { units = n })) (sym (same_units g.units))
      ∙ ap (meaning.complete k s (array_object (length items)) place) (told_more s (Items items) 0 g)
      ∙ ap (λ n. meaning.complete k s (array_object (length items)) place (told s (record made { units = n }))) (same_units g.units)

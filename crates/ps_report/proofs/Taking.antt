-- The report, taken step by step.
use Rattle.std.proofs.Common.{◌≡◌, ℕ, zero, suc, ◌+◌, ◌<◌, ◌≤◌, Bool, true, false, true≢false, cond, ◌&&◌, List, [], ◌∷◌, length, Option, Some, None, option_map, Result, Ok, Err, refl, sym, ap, ◌∙◌, subst, codes, arith}
use Rattle.std.specs.FinMap.{get}
use Rattle.ps_objects.specs.Object.{cell_named}
use Rattle.ps_objects.specs.declared.cell.Cell.{Cell}
use Rattle.ps_objects.specs.declared.cell.SaveName.{SaveName}
use Rattle.ps_names.specs.declared.error_name.ErrorName.{ErrorName}
use Rattle.std.specs.Bool.{⊤}
use Rattle.ps_objects.specs.declared.object.Object.{Object}
use Rattle.ps_objects.specs.declared.object.Kind.{Kind}
use Rattle.ps_objects.specs.declared.object.Kind.TheVariants as kind
use Rattle.ps_objects.specs.declared.objects.Interval.{Interval}
use Rattle.ps_objects.specs.declared.place.Loc.{Loc}
use Rattle.ps_objects.specs.declared.place.Loc.TheVariants as loc
use Rattle.ps_objects.specs.declared.place.Shape.{Shape}
use Rattle.ps_objects.specs.declared.place.Shape.TheVariants as shape
use Rattle.ps_objects.specs.declared.place.Value.{Value}
use Rattle.ps_objects.specs.declared.place.Value.TheVariants as value
use Rattle.ps_memory.specs.Memory.{Memory, value_at, shape_at, store, Output}
use Rattle.ps_memory.specs.Tree.{puts, done, look, applied, Application, result, after}
use Rattle.ps_meaning.specs.Answer.{Log, looked_in, acted_in}
use Rattle.ps_meaning.specs.Fits.{Shapes, takes, lies_within, FitsCell, FitsObject, IsDict}
use Rattle.ps_meaning.specs.Registers.{world_of}
use Rattle.ps_meaning.specs.Sound.{World, StartStands, StringFits, SoundMemory, IsAnswer, Lawful, Kept}
use Rattle.ps_meaning.specs.Start.{literal, error_record}
use Rattle.ps_meaning.proofs.Ground.{answered, ground}
use Rattle.vm_mem.specs.Conditions.{is_here, page_is_here}
use Rattle.ps_operator.specs.Looks.{or_absent}
use Rattle.ps_operator.specs.Standing.{is_dict_shape, has_bytes, is_dict, is_string}
use Rattle.ps_execution.specs.Objects.{byte_in, looks_at_bytes}
use Rattle.ps_execution.specs.Reached.{Reached, reached, came, outer, outer_for, reached_as}
use Rattle.ps_execution.proofs.Reached.{reached_law}
use Rattle.ps_execution.specs.Section as meaning
use Rattle.ps_execution.specs.Section.{in_error_record, told_value, told_kind, reports}
use Rattle.ps_report.specs.Reports.{told_in, report_in, Reports, StaysSound, ReportsLaw, forgotten_in, is_told, string_stands, Leads, Onward}
use Rattle.ps_report.specs.declared.report.Report.{Report}
use Rattle.ps_report.specs.declared.report.Told.{Told}

both : (a b : Bool) → a ≡ true → b ≡ true → (a && b) ≡ true
both a b p q = ap (λ x. x && b) p ∙ q

abbrev new_place : Loc
new_place = in_error_record (codes "newerror")

abbrev name_place : Loc
name_place = in_error_record (codes "errorname")

abbrev command_place : Loc
command_place = in_error_record (codes "command")

-- ---- what stands in a sound memory

module _ (W : World) (M : Memory) (r : SoundMemory W M) where
  page_stands : page_is_here M ≡ true
  unfolding page_is_here
  page_stands = ap is_here r.page.1

  record_is : IsDict W.shapes error_record
  record_is = (0, r.start.1.1.1.1.0)

  record_there : is_dict M error_record ≡ true
  unfolding is_dict
  record_there = both (page_is_here M) (is_dict_shape (shape_at M error_record)) page_stands (ap is_dict_shape (r.shapes error_record ∙ record_is.1))

  bytes_there : (start len n : ℕ) (o : Option (List ℕ)) → StringFits (Some (shape.Str n)) o → lies_within start len n ≡ true → has_bytes start len (Some (shape.Str n)) o ≡ true
  bytes_there start len n o f h = ap (has_bytes start len (Some (shape.Str n))) f.1 ∙ both (lies_within start len n) (lies_within start len (length f.0)) h (subst (λ m. lies_within start len m ≡ true) (sym f.2) h)

  bytes_here : (a : Interval) (sh : Shape) → W.shapes a.cell ≡ Some sh → takes (kind.Str a) sh ≡ true → is_string M a ≡ true
  unfolding is_string
  bytes_here a (shape.Str n) e h =
      both (page_is_here M) (has_bytes a.start a.len (shape_at M a.cell) (get M.strings a.cell)) page_stands
      (ap (λ o. has_bytes a.start a.len o (get M.strings a.cell)) (r.shapes a.cell ∙ e) ∙ bytes_there a.start a.len n (get M.strings a.cell) (subst (λ o. StringFits o (get M.strings a.cell)) e (r.strings a.cell)) h)
  bytes_here a (shape.Array n) e h = absurd (true≢false (sym h))
  bytes_here a (shape.Dict n) e h = absurd (true≢false (sym h))

  string_of : (t : Kind) → FitsCell W.shapes (cell_named t) (takes t) → string_stands M t ≡ true
  string_of (kind.Str a) f = bytes_here a f.0 f.1 f.2
  string_of _ f = refl

  entry_told : (name : List ℕ) (o : Option Object) → value_at M (in_error_record name) ≡ or_absent o → is_told M o ≡ true
  entry_told name o e = by o (subst (IsAnswer W (in_error_record name)) e (answered W M r (in_error_record name) record_is))
    where
      by : (o : Option Object) → IsAnswer W (in_error_record name) (or_absent o) → is_told M o ≡ true
      by None a = refl
      by (Some x) a = string_of x.kind a.1

pub record_stands : (n : ℕ) (M : Memory) → SoundMemory (world_of n M) M → is_dict M error_record ≡ true
record_stands n M r = record_there (world_of n M) M r

pub told_there : (n : ℕ) (M : Memory) (name : List ℕ) (o : Option Object) → SoundMemory (world_of n M) M → value_at M (in_error_record name) ≡ or_absent o → is_told M o ≡ true
told_there n M name o r e = entry_told (world_of n M) M r name o e

-- ---- the law

abbrev finished : Option meaning.Told → Option meaning.Told → Application (Option meaning.Report)
finished n c = done (puts new_place (value.Object (literal (kind.Boolean false))) ∷ []) (Some (record { name = n; command = c }))

abbrev rest : Application (Option meaning.Report)
rest = look name_place (λ name. look command_place (λ command. told_value name (λ n. told_value command (λ c. finished n c))))

module _ (W : World) (s : StartStands W.shapes) where
  abbrev Ends : Application (Option meaning.Report) → Type 0
  Ends t = Lawful (applied t) W (λ V r. V ≡ W)

  record_dict : IsDict W.shapes error_record
  record_dict = (0, s.1.1.1.1.0)

  bytes_lawful : (c : Cell) (size : ℕ) → W.shapes c ≡ Some (shape.Str size) → (n i : ℕ) → i + n ≤ size → (k : Onward (List ℕ)) → ((bs : List ℕ) → Ends (k bs)) → Ends (looks_at_bytes c i n k)
  bytes_lawful c size e zero i h k g = g []
  bytes_lawful c size e (suc n) i h k g = ((size, e, omega (arith, h)), λ v a. bytes_lawful c size e n (suc i) (omega (arith, h)) (λ bs. k (byte_in v ∷ bs)) (λ bs. g (byte_in v ∷ bs)))

  within : (start len n : ℕ) → lies_within start len n ≡ true → start + len ≤ n
  within start len n h = grind arith

  string_lawful : (x : Object) (a : Interval) (sh : Shape) → W.shapes a.cell ≡ Some sh → takes (kind.Str a) sh ≡ true → (k : Onward meaning.Told) → ((t : meaning.Told) → Ends (k t)) → Ends (told_kind x (kind.Str a) k)
  string_lawful x a (shape.Str n) e h k g = bytes_lawful a.cell n e a.len a.start (within a.start a.len n h) (λ bs. k (record { object = x; bytes = bs })) (λ bs. g (record { object = x; bytes = bs }))
  string_lawful x a (shape.Array n) e h k g = absurd (true≢false (sym h))
  string_lawful x a (shape.Dict n) e h k g = absurd (true≢false (sym h))

  kind_lawful : (x : Object) (t : Kind) → FitsCell W.shapes (cell_named t) (takes t) → (k : Onward meaning.Told) → ((t : meaning.Told) → Ends (k t)) → Ends (told_kind x t k)
  kind_lawful x (kind.Str a) f k g = string_lawful x a f.0 f.1 f.2 k g
  kind_lawful x _ f k g = g (record { object = x; bytes = [] })

  value_lawful : (name : List ℕ) (v : Value) → IsAnswer W (in_error_record name) v → (k : Onward (Option meaning.Told)) → ((t : Option meaning.Told) → Ends (k t)) → Ends (told_value v k)
  value_lawful name (value.Object x) a k g = kind_lawful x x.kind a.1 (λ t. k (Some t)) (λ t. g (Some t))
  value_lawful name _ a k g = g None

  finished_lawful : (n c : Option meaning.Told) → Ends (finished n c)
  finished_lawful n c = (record_dict, refl, (tt, tt), λ h. absurd (true≢false (sym h)), refl)

  rest_lawful : Ends rest
  rest_lawful = (record_dict, λ v a. (record_dict, λ w b. value_lawful (codes "errorname") v a (λ n. told_value w (λ c. finished n c)) (λ n. value_lawful (codes "command") w b (λ c. finished n c) (λ c. finished_lawful n c))))

  by_new : (b : Bool) → Ends (cond b rest (done [] None))
  by_new true = rest_lawful
  by_new false = refl

  lawful : Ends reports
  lawful = (record_dict, λ v a. by_new (meaning.is_true v))

pub reports_law : ReportsLaw
reports_law W s = lawful W s

-- ---- the ways through it

cond_false : {A : Type 0} (b : Bool) (x y : A) → b ≡ false → cond b x y ≡ y
cond_false false x y e = refl
cond_false true x y e = absurd (true≢false e)

cond_true : {A : Type 0} (b : Bool) (x y : A) → b ≡ true → cond b x y ≡ x
cond_true true x y e = refl
cond_true false x y e = absurd (true≢false (sym e))

pub none_new : (old log : Log) (new : Option Object) → value_at old.view new_place ≡ or_absent new → log ≡ looked_in old new_place → meaning.is_true (or_absent new) ≡ false → Reports old None log
none_new old log new is e h out =
    ap (λ t. reached (applied t) (looked_in old new_place) out) (cond_false (meaning.is_true (value_at old.view new_place)) rest (done [] None) (ap meaning.is_true is ∙ h))
    ∙ ap (λ l. came (Ok None) l out) (sym e)

abbrev pub Tells : Option Object → Log → Option Told → Log → Type 0
Tells x old t new = (k : Onward (Option meaning.Told)) → Leads (told_value (or_absent x) k) old (k (option_map told_in t)) new

-- from the looks at the two entries on
rest_taken : (one two three four five last : Log) (name command : Option Object) (n c : Option Told)
    → value_at one.view name_place ≡ or_absent name → two ≡ looked_in one name_place → value_at two.view command_place ≡ or_absent command → three ≡ looked_in two command_place
    → Tells name three n four → Tells command four c five → last ≡ forgotten_in five → (out : List Output)
    → reached (applied rest) one out ≡ came (Ok (Some (report_in (record { name = n; command = c })))) last out
rest_taken one two three four five last name command n c a b d e f g h out =
    ap (λ v. reached (applied (look command_place (λ w. told_value v (λ n. told_value w (λ c. finished n c))))) (looked_in one name_place) out) a
    ∙ ap (λ l. reached (applied (look command_place (λ w. told_value (or_absent name) (λ n. told_value w (λ c. finished n c))))) l out) (sym b)
    ∙ ap (λ w. reached (applied (told_value (or_absent name) (λ n. told_value w (λ c. finished n c)))) (looked_in two command_place) out) d
    ∙ ap (λ l. reached (applied (told_value (or_absent name) (λ n. told_value (or_absent command) (λ c. finished n c)))) l out) (sym e)
    ∙ f (λ n. told_value (or_absent command) (λ c. finished n c)) out
    ∙ g (λ c. finished (option_map told_in n) c) out
    ∙ ap (λ l. came (Ok (Some (report_in (record { name = n; command = c })))) l out) (sym h)

pub taken : (old one two three four five last : Log) (new name command : Option Object) (n c : Option Told) → value_at old.view new_place ≡ or_absent new → one ≡ looked_in old new_place → meaning.is_true (or_absent new) ≡ true
    → value_at one.view name_place ≡ or_absent name → two ≡ looked_in one name_place → value_at two.view command_place ≡ or_absent command → three ≡ looked_in two command_place
    → Tells name three n four → Tells command four c five → last ≡ forgotten_in five → Reports old (Some (record { name = n; command = c })) last
taken old one two three four five last new name command n c is o t a b d e f g h out =
    ap (λ t. reached (applied t) (looked_in old new_place) out) (cond_true (meaning.is_true (value_at old.view new_place)) rest (done [] None) (ap meaning.is_true is ∙ t))
    ∙ ap (λ l. reached (applied rest) l out) (sym o)
    ∙ rest_taken one two three four five last name command n c a b d e f g h out

-- ---- soundness

abbrev Outcome : Type 0
Outcome = Result (Option meaning.Report) ErrorName

abbrev IsSound : World → Reached Outcome → Type 0
IsSound W (came d log out) = SoundMemory W log.view
IsSound W (outer q) = ⊤

pub stays_sound : (old new : Log) (r : Option Report) → Reports old r new → StaysSound old.view new.view
stays_sound old new r h W m = subst (IsSound W) (h []) (subst (IsSound W) (sym (reached_law Outcome (applied reports) old.view old.track [])) (go (outer_for (applied reports) old.view old.track)))
  where
    k : Kept (applied reports) W old.view (λ V r. V ≡ W)
    k = ground (applied reports) W old.view (λ V r. V ≡ W) (reports_law W m.start) m

    go : (q : Option SaveName) → IsSound W (reached_as (applied reports) old.view old.track [] q)
    go None = subst (λ V. SoundMemory V (after (applied reports) old.view)) k.ends k.sound
    go (Some q) = tt

-- ---- what stands after looks

pub stands_at : (n : ℕ) (M N : Memory) → N ≡ M → SoundMemory (world_of n M) M → is_dict N error_record ≡ true
stands_at n M N e r = subst (λ L. is_dict L error_record ≡ true) (sym e) (record_stands n M r)

pub told_at : (n : ℕ) (M N L : Memory) (name : List ℕ) (o : Option Object) → N ≡ M → L ≡ M → SoundMemory (world_of n M) M → value_at N (in_error_record name) ≡ or_absent o → is_told L o ≡ true
told_at n M N L name o e f r v = subst (λ K. is_told K o ≡ true) (sym f) (told_there n M name o r (subst (λ K. value_at K (in_error_record name) ≡ or_absent o) e v))

abbrev view_of : Log → Memory
view_of l = l.view

pub looked_view : (old new : Log) (M : Memory) (l : Loc) → new ≡ looked_in old l → old.view ≡ M → new.view ≡ M
looked_view old new M l e f = ap view_of e ∙ f

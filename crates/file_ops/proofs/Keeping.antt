-- Each operator keeps a state that fits: its tree again, with what fits beside each look and end.
use Rattle.std.proofs.Common.{◌≡◌, ◌≢◌, ℕ, zero, suc, ◌+◌, ◌-◌, ◌<◌, ◌≤◌, Bool, true, false, cond, ◌&&◌, nat_eq, nat_lt, List, [], ◌∷◌, drop, take, length, slice_get, Option, Some, None, Ok, refl, sym, ◌∙◌, subst, arith}
use Rattle.std.specs.Bool.{⊤}
use Rattle.std.specs.List.{AllByRecursion}
use Rattle.ps_names.specs.declared.error_name.ErrorName.TheVariants.{Undefined}
use Rattle.ps_objects.specs.Operands.{needed, room_for, object_at, file_at, readable_at}
use Rattle.ps_objects.specs.Object.{cell_named}
use Rattle.ps_objects.specs.declared.object.Kind.{Kind}
use Rattle.ps_objects.specs.declared.object.Kind.TheVariants as kind
use Rattle.ps_objects.specs.declared.object.Object.{Object}
use Rattle.ps_objects.specs.declared.place.Shape.{Shape}
use Rattle.ps_objects.specs.declared.place.Shape.TheVariants as shape
use Rattle.ps_kinds.specs.declared.state.State.{State}
use Rattle.ps_memory.specs.Memory.{standing_shape}
use Rattle.ps_memory.specs.Tree.{Change, puts, makes, opens, Application, done, restores, fail, look, ask, Tree, changes}
use Rattle.ps_meaning.specs.Answer.{names_taken}
use Rattle.ps_meaning.specs.Fits.{Shapes, lies_within, takes, FitsCell, FitsObject}
use Rattle.ps_meaning.specs.Ready.{Fits}
use Rattle.ps_meaning.specs.Sound.{World, Lawful}
use Rattle.ps_operator.specs.Lawful.{HasBytes, Leaves, Changes, Lawfully, Keeps, IsLawfulIn}
use Rattle.ps_operator.specs.Operators.{Operators, run_in}
use Rattle.ps_operator.specs.Registers.{ops, literal, quiet}
use Rattle.ps_operator.specs.Storing.{byte_stores}
use Rattle.ps_operator.specs.Tree.{Ask}
use Rattle.ps_operator.proofs.Fitting.{Fit, drop_fits, object_fits, string_fits, string_kind}
use Rattle.ps_operator.proofs.Lawful.{read_keeps, bytes_keeps, leaves_keeps}
use Rattle.ps_operator.proofs.Running.{◌▹◌}
use Rattle.ps_operator.proofs.StoreSteps.{bytes_take_none}
use Rattle.ps_operator.proofs.Storing.{bytes_change}
use Rattle.ps_execution.specs.Execution.{Read, reads}
use Rattle.ps_execution.specs.Gather.{Spelt, object, bad, nothing, Scanned, gather}
use Rattle.ps_execution.specs.Lawful.{FitsRead}
use Rattle.ps_execution.proofs.Gather.{read_law}
use Rattle.file_ops.specs.Files.{is_own, own, moved, moves, currentfile, status, number_told, bytesavailable, byte_told, read_, to_end, flush}
use Rattle.file_ops.specs.Operators.{operators, run}
use Rattle.file_ops.specs.Parts.{target_of, some_room, piece, are_bytes, told, fills}
use Rattle.file_ops.specs.Reading.{rest_of, readstring, hex_from, no_hex, readhexstring, line_length, end_length, line_room, tells_line, readline}
use Rattle.file_ops.specs.Tokens.{source_kind, source_of, scan_then, file_spelt, file_ends, left_of, string_spelt, string_ends, token_in, token}
use Rattle.file_ops.specs.declared.parts.Whole.{Whole}
use Rattle.file_ops.specs.declared.tokens.Source.{Source}
use Rattle.file_ops.specs.declared.tokens.Source.TheVariants as source
use Rattle.file_ops.proofs.Hexadecimal.{hex_short, hex_within}
use Rattle.file_ops.proofs.Lines.{line_within, end_within, roomy}
use Rattle.file_ops.proofs.Ordered.{Follow, EndsFollow, gather_follows}
use Rattle.file_ops.proofs.Targets.{target_string}

-- ---- parts of strings, and lists

inside : (start len size from n : ℕ) → lies_within start len size ≡ true → from + n ≤ len → lies_within (start + from) n size ≡ true
inside start len size from n h l = grind (arith, h, l)

piece_fits : {K : Shapes} (t : Whole) (from n : ℕ) → HasBytes K t.interval → from + n ≤ t.interval.len → FitsObject K (piece t from n)
piece_fits t from n h l = (shape.Str h.size, h.stands, inside t.interval.start t.interval.len h.size from n h.within l)

take_short : (n : ℕ) (xs : List ℕ) → length (take n xs) ≤ n
take_short zero xs = omega arith
take_short (suc n) [] = omega arith
take_short (suc n) (x ∷ xs) = let h = take_short n xs in omega (arith, h)

take_within : (n : ℕ) (xs : List ℕ) → length (take n xs) ≤ length xs
take_within zero xs = omega arith
take_within (suc n) [] = omega arith
take_within (suc n) (x ∷ xs) = let h = take_within n xs in omega (arith, h)

rest_length : (n : ℕ) (xs : List ℕ) → n ≤ length xs → n + length (drop n xs) ≡ length xs
rest_length zero xs h = omega arith
rest_length (suc n) [] h = absurd (omega (arith, h))
rest_length (suc n) (x ∷ xs) h = let e = rest_length n xs (omega (arith, h)) in omega (arith, e)

found_below : (xs : List ℕ) (i b : ℕ) → slice_get xs i ≡ Some b → i + 1 ≤ length xs
found_below [] i b e = cc
found_below (x ∷ xs) zero b e = omega arith
found_below (x ∷ xs) (suc i) b e = let h = found_below xs i b e in omega (arith, h)

each_byte : (bs : List ℕ) → are_bytes bs ≡ true → AllByRecursion (λ b. b < 256) bs
unfolding are_bytes
each_byte [] e = tt
each_byte (b ∷ bs) e = go (nat_lt b 256) refl (each_byte bs) e
  where
    go : (t : Bool) → nat_lt b 256 ≡ t → (are_bytes bs ≡ true → AllByRecursion (λ b. b < 256) bs) → (t && are_bytes bs) ≡ true → (b < 256) × AllByRecursion (λ b. b < 256) bs
    go true p later q = (grind (arith, p), later q)
    go false p later q = cc

-- ---- a state that fits, in a section with a text

module _ (text : List ℕ) (s : State) (W : World) (f : Fits text W s) where
  rest_fits : (n : ℕ) → Fit W.shapes (drop n (ops s))
  rest_fits n = drop_fits W.shapes n (ops s) f.state.registers.operands

  -- what is left at a place of the text
  moved_leaves : (place : ℕ) (xs : List Object) → place ≤ length text → Fit W.shapes xs → Leaves text 4 s.frames s 0 (quiet (moved s place xs)) W
  moved_leaves place xs l h = record {
    registers = record { operands = h; dicts = f.state.registers.dicts; bottom = f.state.registers.bottom; state = f.state.registers.state; states = f.state.registers.states; marks = f.state.registers.marks; size = f.state.registers.size };
    frames = f.state.frames;
    act = tt;
    budget = record { turns = f.state.budget.turns; units = f.state.budget.units; shows = f.state.budget.shows; said = f.state.budget.said };
    within = l;
    names = omega arith;
  }

  moves_keeps : (place : ℕ) (xs : List Object) → place ≤ length text → Fit W.shapes xs → Keeps text 4 s.frames (moves s place xs) s W
  moves_keeps place xs l h = record { lawful = moved_leaves place xs l h }

  -- ---- the section's text as a file

  currentfile_keeps : Keeps text 4 s.frames (currentfile s) s W
  currentfile_keeps =
      read_keeps (room_for 1 (ops s)) (λ _ _.
      leaves_keeps f (literal (kind.File s.section) ∷ ops s) (tt, f.state.registers.operands))

  status_keeps : Keeps text 4 s.frames (status s) s W
  status_keeps =
      read_keeps (needed 1 (ops s)) (λ _ _.
      read_keeps (file_at 0 (ops s)) (λ n _.
      leaves_keeps f (literal (kind.Boolean (is_own s n)) ∷ drop 1 (ops s)) (tt, rest_fits 1)))

  bytesavailable_keeps : Keeps text 4 s.frames (bytesavailable text s) s W
  bytesavailable_keeps =
      read_keeps (needed 1 (ops s)) (λ _ _.
      read_keeps (file_at 0 (ops s)) (λ n _.
      read_keeps (own s n) (λ _ _.
      read_keeps (number_told (length text - s.place)) (λ i _.
      leaves_keeps f (literal (kind.Integer i) ∷ drop 1 (ops s)) (tt, rest_fits 1)))))

  byte_told_keeps : (b : Option ℕ) → slice_get text s.place ≡ b → Keeps text 4 s.frames (byte_told s b) s W
  byte_told_keeps None e = leaves_keeps f (literal (kind.Boolean false) ∷ drop 1 (ops s)) (tt, rest_fits 1)
  byte_told_keeps (Some b) e = read_keeps (room_for 1 (ops s)) (λ _ _. moves_keeps (s.place + 1) _ (found_below text s.place b e) (tt, (tt, rest_fits 1)))

  read_file_keeps : Keeps text 4 s.frames (read_ text s) s W
  read_file_keeps =
      read_keeps (needed 1 (ops s)) (λ _ _.
      read_keeps (file_at 0 (ops s)) (λ n _.
      read_keeps (readable_at 0 (ops s)) (λ _ _.
      read_keeps (own s n) (λ _ _.
      byte_told_keeps (slice_get text s.place) refl))))

  to_end_keeps : Keeps text 4 s.frames (to_end text s) s W
  to_end_keeps =
      read_keeps (needed 1 (ops s)) (λ _ _.
      read_keeps (file_at 0 (ops s)) (λ n _.
      read_keeps (own s n) (λ _ _.
      moves_keeps (length text) (drop 1 (ops s)) (omega arith) (rest_fits 1))))

  flush_keeps : Keeps text 4 s.frames (flush s) s W
  flush_keeps = leaves_keeps f (ops s) f.state.registers.operands

  -- ---- strings that are filled

  target_fits : (t : Whole) → target_of s ≡ Ok t → HasBytes W.shapes t.interval
  target_fits t e = string_fits W.shapes (ops s) 0 t.interval f.state.registers.operands (target_string s t e)

  fills_keeps : (t : Whole) (bs : List ℕ) (all : Bool) (place : ℕ) → HasBytes W.shapes t.interval → length bs ≤ t.interval.len → place ≤ length text → Keeps text 4 s.frames (fills s t bs all place) s W
  fills_keeps t bs all place h l p = go (are_bytes bs) refl
    where
      now : List Object
      now = told t (length bs) all (ops s)

      fit : Fit W.shapes now
      fit = (tt, (piece_fits t 0 (length bs) h (omega (arith, l)), rest_fits 2))

      left : Leaves text 4 s.frames s (names_taken (byte_stores t.interval 0 bs)) (quiet (moved s place now)) W
      left = subst (λ n. Leaves text 4 s.frames s n (quiet (moved s place now)) W) (sym (bytes_take_none t.interval 0 bs)) (moved_leaves place now p fit)

      go : (b : Bool) → are_bytes bs ≡ b → Keeps text 4 s.frames (cond b (done (byte_stores t.interval 0 bs) (quiet (moved s place now))) (fail Undefined)) s W
      go false e = record { lawful = tt }
      go true e = record { lawful = bytes_change W s.count (Leaves text 4 s.frames s (names_taken (byte_stores t.interval 0 bs)) (quiet (moved s place now))) t.interval h 0 bs (omega (arith, l)) (each_byte bs e) left }

  readstring_keeps : Keeps text 4 s.frames (readstring text s) s W
  readstring_keeps =
      read_keeps (target_of s) (λ t e.
      read_keeps (some_room t.interval.len) (λ _ _.
      fills_keeps t (take t.interval.len (rest_of text s)) _ (s.place + length (take t.interval.len (rest_of text s))) (target_fits t e) (take_short t.interval.len (rest_of text s))
      (let a = take_within t.interval.len (rest_of text s) in let b = rest_length s.place text f.within in omega (arith, a, b))))

  readhexstring_keeps : Keeps text 4 s.frames (readhexstring text s) s W
  readhexstring_keeps =
      read_keeps (target_of s) (λ t e.
      read_keeps (some_room t.interval.len) (λ _ _.
      let h = hex_from t.interval.len (rest_of text s) (no_hex s.place) in
      fills_keeps t h.bytes (nat_eq (length h.bytes) t.interval.len) h.place (target_fits t e) (hex_short t.interval.len (rest_of text s) (no_hex s.place) (omega arith))
      (let a = hex_within t.interval.len (rest_of text s) (no_hex s.place) in let b = rest_length s.place text f.within in omega (arith, a, b))))

  line_keeps : (t : Whole) (n : ℕ) → HasBytes W.shapes t.interval → line_room t.interval.len (line_length (rest_of text s)) ≡ Ok n → Keeps text 4 s.frames (tells_line s t n (rest_of text s)) s W
  line_keeps t n h e = fills_keeps t (take n rest) (nat_lt 0 (end_length (drop n rest))) (s.place + (n + end_length (drop n rest))) h short within
    where
      rest : List ℕ
      rest = rest_of text s

      short : length (take n rest) ≤ t.interval.len
      short = let a = take_short n rest in let b = roomy t.interval.len (line_length rest) n e in let c = b.1 in omega (arith, a, c)

      within : s.place + (n + end_length (drop n rest)) ≤ length text
      within =
          let a = (roomy t.interval.len (line_length rest) n e).0 in
          let b = line_within rest in
          let c = end_within (drop n rest) in
          let d = rest_length n rest (omega (arith, a, b)) in
          let g = rest_length s.place text f.within in
          omega (arith, c, d, g)

  readline_keeps : Keeps text 4 s.frames (readline text s) s W
  readline_keeps =
      read_keeps (target_of s) (λ t e.
      read_keeps (line_room t.interval.len (line_length (rest_of text s))) (λ n q.
      line_keeps t n (target_fits t e) q))

-- ---- tokens

-- a lawful run of changes whose names are the next ones
changes_keep : {A : Type 0} (ws : List Change) (t : Tree A) (W : World) (n : ℕ) (Q : World → A → Type 0) (R : World → Type 0) → Lawful (changes ws t) W Q → Follow n ws
    → ((V : World) → Lawful t V Q → R V) → Changes ws W n R
changes_keep [] t W n Q R h g k = k W h
changes_keep (puts l v ∷ ws) t W n Q R h g k = (h.0, h.1, h.2, h.3, changes_keep ws t _ n Q R h.4 g k)
changes_keep (makes c sh ∷ ws) t W n Q R h g k = (h.0.0, g.0, changes_keep ws t _ (n + 1) Q R h.1 g.1 k)
changes_keep (opens q ∷ ws) t W n Q R h g k = (h.0.0, g.0, changes_keep ws t _ (n + 1) Q R h.1 g.1 k)

module _ (text : List ℕ) (s : State) (W : World) (f : Fits text W s) (size : ℕ) where
  abbrev Q : World → Read → Type 0
  Q = FitsRead text s size W

  -- what is left with an object, and perhaps with what is left of its string, among the operands
  spelt_leaves : (ws : List Change) (place units : ℕ) (x : Object) (xs : List Object) (at : ℕ) (V : World)
      → Q V (record { spelt = object x; place = place; state = record s { count = s.count + names_taken ws; units = units } })
      → at ≤ length text → Fit V.shapes xs → Leaves text 4 s.frames s (names_taken ws) (quiet (record (moved s at xs) { units = units })) V
  spelt_leaves ws place units x xs at V q l h =
      let p = q.paid in
      record {
        registers = record { operands = h; dicts = q.state.state.registers.dicts; bottom = q.state.state.registers.bottom; state = q.state.state.registers.state; states = q.state.state.registers.states; marks = q.state.state.registers.marks; size = q.state.state.registers.size };
        frames = q.state.state.frames;
        act = tt;
        budget = record { turns = q.state.state.budget.turns; units = q.state.state.budget.units; shows = q.state.state.budget.shows; said = q.state.state.budget.said };
        within = l;
        names = omega (arith, p);
      }

  scan_kept : (t : Application Scanned) (k : List Change → Scanned → Ask) → Lawful (reads t s) W Q → EndsFollow s.count t
      → ((ws : List Change) (x : Scanned) → Lawful (reads (done ws x) s) W Q → Follow s.count ws → Lawfully text 4 s.frames (k ws x) s W)
      → Lawfully text 4 s.frames (scan_then t k) s W
  unfolding scan_then
  scan_kept (done ws x) k h g e = e ws x h g
  scan_kept (restores r ws x) k h g e = e ws x h g
  scan_kept (fail z) k h g e = tt
  scan_kept (look l t) k h g e = (h.0, λ v a. scan_kept (t v) k (h.1 v a) (g v) e)
  scan_kept (ask c t) k h g e = (h.0, scan_kept (t (standing_shape (W.shapes c))) k h.1 (g (standing_shape (W.shapes c))) e)

  scan_keeps : (bytes : List ℕ) (place : ℕ) (k : List Change → Scanned → Ask) → size ≡ length bytes → place ≤ length bytes
      → ((ws : List Change) (x : Scanned) → Lawful (reads (done ws x) s) W Q → Follow s.count ws → Keeps text 4 s.frames (k ws x) s W)
      → Keeps text 4 s.frames (scan_then (gather bytes place s) k) s W
  scan_keeps bytes place k e l h =
      record { lawful = scan_kept (gather bytes place s) k (subst (λ n. Lawful (reads (gather bytes place s) s) W (FitsRead text s n W)) (sym e) (read_law text bytes place s W f l)) (gather_follows s bytes place) (λ ws x g q. (h ws x g q).lawful) }

-- a token of the section's text
module _ (text : List ℕ) (s : State) (W : World) (f : Fits text W s) where
  file_ends_keeps : (ws : List Change) (place units : ℕ) (x : Spelt) → Lawful (reads (done ws (record { spelt = x; place = place; units = units })) s) W (FitsRead text s (length text) W) → Follow s.count ws
      → Keeps text 4 s.frames (file_spelt s (length text) ws place units x) s W
  file_ends_keeps ws place units (object x) h g =
      read_keeps (room_for 1 (ops s)) (λ _ _.
      record {
        lawful = changes_keep ws _ W s.count (FitsRead text s (length text) W) (Leaves text 4 s.frames s (names_taken ws) (quiet (record (moved s place (literal (kind.Boolean true) ∷ x ∷ drop 1 (ops s))) { units = units }))) h g
            (λ V q. spelt_leaves text s W f (length text) ws place units x (literal (kind.Boolean true) ∷ x ∷ drop 1 (ops s)) place V q q.place (tt, (q.spelt, drop_fits V.shapes 1 (ops s) q.state.state.registers.operands)));
      })
  file_ends_keeps ws place units (bad e) h g = record { lawful = tt }
  file_ends_keeps ws place units nothing h g = moves_keeps text s W f (length text) (literal (kind.Boolean false) ∷ drop 1 (ops s)) (omega arith) (tt, rest_fits text s W f 1)

  file_keeps : Keeps text 4 s.frames (scan_then (gather text s.place s) (file_ends s (length text))) s W
  file_keeps = scan_keeps text s W f (length text) text s.place (file_ends s (length text)) refl f.within (λ ws x h g. file_ends_keeps ws x.place x.units x.spelt h g)

-- a token of a string
module _ (text : List ℕ) (s : State) (W : World) (f : Fits text W s) (t : Whole) (standing : HasBytes W.shapes t.interval) (size : ℕ) (count : size ≡ t.interval.len) where
  part_grows : (V : World) → ((c : _) → W.shapes c ≢ None → V.shapes c ≡ W.shapes c) → HasBytes V.shapes t.interval
  part_grows V g = record { size = standing.size; stands = g t.interval.cell there ∙ standing.stands; within = standing.within }
    where
      apart : (sh : Shape) → Some sh ≡ None → ⊥
      apart sh e = cc

      there : W.shapes t.interval.cell ≢ None
      there a = apart (shape.Str standing.size) (sym standing.stands ∙ a)

  left_fits : (V : World) (place : ℕ) → HasBytes V.shapes t.interval → place ≤ size → FitsObject V.shapes (left_of t place)
  left_fits V place h l = piece_fits t place (t.interval.len - place) h (omega (arith, l, count))

  string_ends_keeps : (ws : List Change) (place units : ℕ) (x : Spelt) → Lawful (reads (done ws (record { spelt = x; place = place; units = units })) s) W (FitsRead text s size W) → Follow s.count ws
      → Keeps text 4 s.frames (string_spelt s t ws place units x) s W
  string_ends_keeps ws place units (object x) h g =
      read_keeps (room_for 2 (ops s)) (λ _ _.
      record {
        lawful = changes_keep ws _ W s.count (FitsRead text s size W) (Leaves text 4 s.frames s (names_taken ws) (quiet (record (moved s s.place (literal (kind.Boolean true) ∷ x ∷ left_of t place ∷ drop 1 (ops s))) { units = units }))) h g
            (λ V q. spelt_leaves text s W f size ws place units x (literal (kind.Boolean true) ∷ x ∷ left_of t place ∷ drop 1 (ops s)) s.place V q f.within
            (tt, (q.spelt, (left_fits V place (part_grows V q.grows) q.place, drop_fits V.shapes 1 (ops s) q.state.state.registers.operands))));
      })
  string_ends_keeps ws place units (bad e) h g = record { lawful = tt }
  string_ends_keeps ws place units nothing h g = moves_keeps text s W f s.place (literal (kind.Boolean false) ∷ drop 1 (ops s)) f.within (tt, rest_fits text s W f 1)

module _ (text : List ℕ) (s : State) (W : World) (f : Fits text W s) where
  string_keeps : (t : Whole) → HasBytes W.shapes t.interval → Keeps text 4 s.frames (token_in text s (source.Held t)) s W
  string_keeps t h =
      bytes_keeps h (λ bs g.
      scan_keeps text s W f (length bs) bs 0 (string_ends s t) refl (omega arith) (λ ws x q r. string_ends_keeps text s W f t h (length bs) g.count ws x.place x.units x.spelt q r))

  -- where a token is read fits
  abbrev FitsSource : Source → Type 0
  FitsSource (source.Held t) = HasBytes W.shapes t.interval
  FitsSource (source.Read n) = ⊤

  kind_fits : (x : Object) (k : Kind) (src : Source) → FitsCell W.shapes (cell_named k) (takes k) → source_kind x k ≡ Ok src → FitsSource src
  kind_fits x (kind.Str part) src h e = let p : source.Held (record { interval = part; exec = x.exec; access = x.access }) ≡ src = cc in subst FitsSource p (string_kind W.shapes (kind.Str part) part h refl)
  kind_fits x (kind.File n) src h e = let p : source.Read (record { section = n; layer = 0 }) ≡ src = cc in subst FitsSource p tt
  kind_fits x (kind.Filter n m) src h e = let p : source.Read (record { section = n; layer = m }) ≡ src = cc in subst FitsSource p tt
  kind_fits x _ src h e = cc

  token_in_keeps : (src : Source) → FitsSource src → Keeps text 4 s.frames (token_in text s src) s W
  token_in_keeps (source.Held t) h = string_keeps t h
  token_in_keeps (source.Read n) h = read_keeps (own s n) (λ _ _. file_keeps text s W f)

  token_keeps : Keeps text 4 s.frames (token text s) s W
  token_keeps =
      read_keeps (needed 1 (ops s)) (λ _ _.
      read_keeps (object_at 0 (ops s)) (λ x p.
      read_keeps (source_of x) (λ src q.
      read_keeps (readable_at 0 (ops s)) (λ _ _.
      token_in_keeps src (kind_fits x x.kind src (object_fits W.shapes (ops s) 0 x f.state.registers.operands p) q)))))

-- ---- all of them

-- each of some operators keeps this state
abbrev AllKeep : List ℕ → State → World → Operators → Type 0
AllKeep text s W [] = ⊤
AllKeep text s W (t ∷ ts) = Keeps text 4 s.frames (t.1 s) s W × AllKeep text s W ts

among_keeps : (text : List ℕ) (s : State) (W : World) (ts : Operators) → AllKeep text s W ts → (n : ℕ) → Keeps text 4 s.frames (run_in ts n s) s W
among_keeps text s W [] h n = record { lawful = tt }
among_keeps text s W (t ∷ ts) h n = go (nat_eq n t.0) (among_keeps text s W ts h.1 n)
  where
    go : (b : Bool) → Keeps text 4 s.frames (run_in ts n s) s W → Keeps text 4 s.frames (cond b (t.1 s) (run_in ts n s)) s W
    go true later = h.0
    go false later = later

all_keep : (text : List ℕ) (s : State) (W : World) (f : Fits text W s) → AllKeep text s W (operators text)
all_keep text s W f =
    currentfile_keeps text s W f ▹ status_keeps text s W f ▹ bytesavailable_keeps text s W f ▹ read_file_keeps text s W f ▹ readstring_keeps text s W f
    ▹ readhexstring_keeps text s W f ▹ readline_keeps text s W f ▹ token_keeps text s W f ▹ to_end_keeps text s W f ▹ to_end_keeps text s W f ▹ flush_keeps text s W f ▹ tt

pub run_keeps : (n : ℕ) → IsLawfulIn (run n)
run_keeps n text s W f = among_keeps text s W (operators text) (all_keep text s W f) n

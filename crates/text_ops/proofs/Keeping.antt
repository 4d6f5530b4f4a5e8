-- Each operator keeps a state that fits: its tree again, with what fits beside each look and end.
use Rattle.std.proofs.Common.{◌≡◌, ℕ, zero, suc, ◌+◌, ◌-◌, ◌<◌, ◌≤◌, Bool, true, false, cond, ◌&&◌, nat_lt, nat_eq, List, [], ◌∷◌, ◌++◌, drop, take, length, Option, Some, None, Result, Ok, Err, refl, ap, arith}
use Rattle.std.specs.List.{AllByRecursion, starts_with}
use Rattle.std.specs.Cmp.Lexicographic.{pointwise}
use Rattle.ps_names.specs.declared.error_name.ErrorName.{ErrorName}
use Rattle.ps_names.specs.declared.error_name.ErrorName.TheVariants.{LimitCheck, RangeCheck, Undefined}
use Rattle.ps_objects.specs.declared.access.Access.{Access}
use Rattle.ps_objects.specs.declared.access.Access.TheVariants.{Unlimited}
use Rattle.ps_objects.specs.declared.object.Kind.{Kind}
use Rattle.ps_objects.specs.declared.object.Kind.TheVariants as kind
use Rattle.ps_objects.specs.declared.object.Object.{Object}
use Rattle.ps_objects.specs.declared.objects.Interval.{Interval}
use Rattle.ps_objects.specs.declared.objects.Number.TheVariants as number
use Rattle.ps_objects.specs.declared.place.Shape.TheVariants as shape
use Rattle.ps_objects.specs.Access.{read_right}
use Rattle.ps_objects.specs.Object.{whole_of}
use Rattle.ps_objects.specs.Operands.{needed, room_for, object_at, integer_at, number_at, string_at, readable_at, writable_at}
use Rattle.ps_kinds.specs.declared.state.State.{State}
use Rattle.ps_objects.specs.Object.{cell_named}
use Rattle.ps_memory.specs.Tree.{done, fail}
use Rattle.ps_meaning.specs.Answer.{names_taken}
use Rattle.ps_meaning.specs.Budgets.{message_budget}
use Rattle.ps_meaning.specs.Fits.{Shapes, lies_within, takes, FitsCell, FitsObject}
use Rattle.ps_meaning.specs.Ready.{Fits}
use Rattle.ps_meaning.specs.Sound.{World}
use Rattle.ps_operator.specs.Budgets.{unit_room, message_room}
use Rattle.ps_operator.specs.Keys.{bytes_of, key_right_at}
use Rattle.ps_operator.specs.Lawful.{HasBytes, Leaves, Keeps, IsLawful}
use Rattle.ps_operator.specs.Making.{next_cell}
use Rattle.ps_operator.specs.Numbers.{natural_of, length_of}
use Rattle.ps_operator.specs.Operators.{AreLawful}
use Rattle.ps_operator.specs.Registers.{ops, literal, with_ops, quiet}
use Rattle.ps_operator.specs.Storing.{byte_stores}
use Rattle.ps_operator.proofs.Fitting.{Fit, drop_fits, object_fits, string_fits, string_kind}
use Rattle.ps_operator.proofs.Growing.{room_kept, made_keeps, new_fits}
use Rattle.ps_operator.proofs.Lawful.{AreBytes, read_keeps, bytes_keeps, leaves_kept, leaves_keeps}
use Rattle.ps_operator.proofs.Running.{◌▹◌, all_lawful}
use Rattle.ps_operator.proofs.Seeking.{Seeks, Any, found_seeks, read_seeks, then_seeks, bytes_seek, seeking_keeps}
use Rattle.ps_operator.proofs.StoreSteps.{bytes_take_none}
use Rattle.ps_operator.proofs.Storing.{bytes_change, length_below, whole_lies}
use Rattle.plain_texts.specs.Plain.{plain_of}
use Rattle.text_ops.specs.Parts.{piece, parted, headed, fits_in, are_bytes, fills}
use Rattle.text_ops.specs.declared.plain.Plain.{Plain}
use Rattle.text_ops.specs.declared.plain.Plain.TheVariants as plain
use Rattle.text_ops.specs.Plain.{plain_form, plain_length, plain_told}
use Rattle.text_ops.specs.Strings.{string_units, string, first_place, search_ends, search, anchorsearch_ends, anchorsearch}
use Rattle.full_texts.specs.Full.{full_text}
use Rattle.full_texts.proofs.Seeking.{MaySay, whole_seeks, full_text_seeks}
use Rattle.text_ops.specs.Messages.{says, print, equals_sign}
use Rattle.text_ops.specs.Listing.{full_line, full_lines, two_equals_signs, pstack, all_readable, lines_room, plain_lines, stack}
use Rattle.text_ops.specs.Numbers.{number_in, integer_from, real_from, base_of, number_text}
use Rattle.text_ops.specs.Conversions.{cvs, cvrs, name_room, cvn, number_told, cvi, cvr}
use Rattle.text_ops.specs.Operators.{operators, run}
use Rattle.text_ops.proofs.Places.{first_within}
use Rattle.text_ops.proofs.Lines.{lines_allowed}

-- ---- parts of strings

inside : (start len size from n : ℕ) → lies_within start len size ≡ true → from + n ≤ len → lies_within (start + from) n size ≡ true
inside start len size from n h l = grind arith

piece_fits : {K : Shapes} (exec : Bool) (right : Access) (a : Interval) (from n : ℕ) → HasBytes K a → from + n ≤ a.len → FitsObject K (piece exec right a from n)
piece_fits exec right a from n h l = (shape.Str h.size, h.stands, inside a.start a.len h.size from n h.within l)

-- ---- new strings

string_keeps : IsLawful string
string_keeps text s W f =
    let o : Fit W.shapes (ops s) = f.state.registers.operands in
    read_keeps (needed 1 (ops s)) (λ _ _.
    read_keeps (integer_at 0 (ops s)) (λ i _.
    read_keeps (natural_of i) (λ m _.
    read_keeps (length_of m) (λ n q.
    read_keeps (unit_room s.kind s.units (string_units n)) (λ _ u.
    made_keeps f (shape.Str n) (literal (kind.Str (whole_of (next_cell s) n)) ∷ drop 1 (ops s)) (string_units n)
    (new_fits f (shape.Str n) (literal (kind.Str (whole_of (next_cell s) n))) (drop 1 (ops s)) refl (whole_lies n (length_below m n q)) (drop_fits W.shapes 1 (ops s) o))
    (room_kept s (string_units n) u))))))

-- ---- searches

by_counts : (at m n k len : ℕ) → at + m ≤ n → m ≡ k → n ≡ len → at + k ≤ len
by_counts at m n k len h p q = omega arith

parts_meet : (at m len : ℕ) → at + m ≤ len → at + m + (len - (at + m)) ≤ len
parts_meet at m len h = omega arith

search_end_keeps : {text : List ℕ} {s : State} {W : World} → Fits text W s → (x : Object) (a : Interval) (m : ℕ) (r : Option ℕ) → HasBytes W.shapes a → ((at : ℕ) → r ≡ Some at → at + m ≤ a.len)
    → Keeps text 4 s.frames (search_ends s x a m r) s W
search_end_keeps {s = s} {W = W} f x a m None h w = leaves_keeps f (literal (kind.Boolean false) ∷ drop 1 (ops s)) (tt, drop_fits W.shapes 1 (ops s) f.state.registers.operands)
search_end_keeps {s = s} {W = W} f x a m (Some at) h w =
    let l : at + m ≤ a.len = w at refl in
    read_keeps (room_for 2 (ops s)) (λ _ _.
    let before : FitsObject W.shapes (piece x.exec x.access a 0 at) = piece_fits x.exec x.access a 0 at h (omega arith) in
    let met : FitsObject W.shapes (piece x.exec x.access a at m) = piece_fits x.exec x.access a at m h l in
    let rest : FitsObject W.shapes (piece x.exec x.access a (at + m) (a.len - (at + m))) = piece_fits x.exec x.access a (at + m) (a.len - (at + m)) h (parts_meet at m a.len l) in
    leaves_keeps f (parted x.exec x.access a at m (drop 2 (ops s))) (tt, (before, (met, (rest, drop_fits W.shapes 2 (ops s) f.state.registers.operands)))))

search_keeps : IsLawful search
search_keeps text s W f =
    let o : Fit W.shapes (ops s) = f.state.registers.operands in
    read_keeps (needed 2 (ops s)) (λ _ _.
    read_keeps (string_at 0 (ops s)) (λ seek p.
    read_keeps (string_at 1 (ops s)) (λ a q.
    read_keeps (readable_at 0 (ops s)) (λ _ _.
    read_keeps (readable_at 1 (ops s)) (λ _ _.
    read_keeps (object_at 1 (ops s)) (λ x _.
    bytes_keeps (string_fits W.shapes (ops s) 0 seek o p) (λ sought g.
    bytes_keeps (string_fits W.shapes (ops s) 1 a o q) (λ bs h.
    search_end_keeps f x a seek.len (first_place bs sought) (string_fits W.shapes (ops s) 1 a o q)
    (λ at e. by_counts at (length sought) (length bs) seek.len a.len (first_within bs sought 0 (length bs + 1) at e) g.count h.count)))))))))

anchorsearch_end_keeps : {text : List ℕ} {s : State} {W : World} → Fits text W s → (x : Object) (a : Interval) (m : ℕ) (t : Bool) → HasBytes W.shapes a → (t ≡ true → m ≤ a.len)
    → Keeps text 4 s.frames (anchorsearch_ends s x a m t) s W
anchorsearch_end_keeps {s = s} {W = W} f x a m false h w = leaves_keeps f (literal (kind.Boolean false) ∷ drop 1 (ops s)) (tt, drop_fits W.shapes 1 (ops s) f.state.registers.operands)
anchorsearch_end_keeps {s = s} {W = W} f x a m true h w =
    let l : m ≤ a.len = w refl in
    read_keeps (room_for 1 (ops s)) (λ _ _.
    let met : FitsObject W.shapes (piece x.exec x.access a 0 m) = piece_fits x.exec x.access a 0 m h (omega arith) in
    let rest : FitsObject W.shapes (piece x.exec x.access a m (a.len - m)) = piece_fits x.exec x.access a m (a.len - m) h (omega arith) in
    leaves_keeps f (headed x.exec x.access a m (drop 2 (ops s))) (tt, (met, (rest, drop_fits W.shapes 2 (ops s) f.state.registers.operands))))

equal_lengths : (xs ys : List ℕ) → pointwise nat_eq xs ys ≡ true → length xs ≡ length ys
equal_lengths [] [] e = refl
equal_lengths [] (y ∷ ys) e = cc
equal_lengths (x ∷ xs) [] e = cc
equal_lengths (x ∷ xs) (y ∷ ys) e = ap suc (equal_lengths xs ys (second (nat_eq x y) (pointwise nat_eq xs ys) e))
  where
    second : (a b : Bool) → (a && b) ≡ true → b ≡ true
    second true b h = h
    second false b h = cc

front_at_most : (n : ℕ) (xs : List ℕ) → length (take n xs) ≤ length xs
front_at_most zero xs = omega arith
front_at_most (suc n) [] = omega arith
front_at_most (suc n) (x ∷ xs) = omega (arith, front_at_most n xs)

front_within : (bs sought : List ℕ) → starts_with nat_eq bs sought ≡ true → length sought ≤ length bs
front_within bs sought e = omega (arith, equal_lengths sought (take (length sought) bs) e, front_at_most (length sought) bs)

so_long : (m n k len : ℕ) → m ≤ n → m ≡ k → n ≡ len → k ≤ len
so_long m n k len h p q = omega arith

anchorsearch_keeps : IsLawful anchorsearch
anchorsearch_keeps text s W f =
    let o : Fit W.shapes (ops s) = f.state.registers.operands in
    read_keeps (needed 2 (ops s)) (λ _ _.
    read_keeps (string_at 0 (ops s)) (λ seek p.
    read_keeps (string_at 1 (ops s)) (λ a q.
    read_keeps (readable_at 0 (ops s)) (λ _ _.
    read_keeps (readable_at 1 (ops s)) (λ _ _.
    read_keeps (object_at 1 (ops s)) (λ x _.
    bytes_keeps (string_fits W.shapes (ops s) 0 seek o p) (λ sought g.
    bytes_keeps (string_fits W.shapes (ops s) 1 a o q) (λ bs h.
    anchorsearch_end_keeps f x a seek.len (starts_with nat_eq bs sought) (string_fits W.shapes (ops s) 1 a o q)
    (λ e. so_long (length sought) (length bs) seek.len a.len (front_within bs sought e) g.count h.count)))))))))

-- ---- plain texts

-- what is told of a plain text
abbrev FitsPlain : World → Plain → List ℕ → Type 0
FitsPlain W (plain.Known t) bs = bs ≡ t
FitsPlain W (plain.Held part) bs = AreBytes W part.len bs

plain_seeks : (W : World) (k : Kind) → FitsCell W.shapes (cell_named k) (takes k) → Seeks W (FitsPlain W (plain_form k)) (plain_told (plain_form k))
plain_seeks W (kind.Str part) h = bytes_seek (string_kind W.shapes (kind.Str part) part h refl)
plain_seeks W k h = found_seeks (FitsPlain W (plain.Known (plain_of k []))) (plain_of k []) refl

plain_counts : (W : World) (p : Plain) (bs : List ℕ) → FitsPlain W p bs → length bs ≡ plain_length p
plain_counts W (plain.Known t) bs h = ap length h
plain_counts W (plain.Held part) bs h = h.count

-- ---- messages

said_by : (b m : ℕ) (t : Bool) → nat_lt b m ≡ t → cond {A = Result (Unit {0}) ErrorName} t (Err LimitCheck) (Ok tt) ≡ Ok tt → m ≤ b
said_by b m true p q = cc
said_by b m false p q = grind arith

said_kept : (s : State) (n : ℕ) → message_room s.kind s.said n ≡ Ok tt → s.said + n ≤ message_budget s.kind
said_kept s n e = said_by (message_budget s.kind) (s.said + n) (nat_lt (message_budget s.kind) (s.said + n)) refl e

-- ends with a message
says_keeps : {text : List ℕ} {s : State} {W : World} → Fits text W s → (xs : List Object) (n : ℕ) (t : List ℕ) → Fit W.shapes xs → s.said + n ≤ message_budget s.kind → Keeps text 4 s.frames (says s xs n t) s W
says_keeps {text = text} {s = s} {W = W} f xs n t h b = record {
  lawful = record {
    registers = record { operands = h; dicts = f.state.registers.dicts; bottom = f.state.registers.bottom; state = f.state.registers.state; states = f.state.registers.states; marks = f.state.registers.marks; size = f.state.registers.size };
    frames = f.state.frames;
    act = tt;
    budget = record { turns = f.state.budget.turns; units = f.state.budget.units; shows = f.state.budget.shows; said = b };
    within = f.within;
    names = omega arith;
  };
}

print_keeps : IsLawful print
print_keeps text s W f =
    let o : Fit W.shapes (ops s) = f.state.registers.operands in
    read_keeps (needed 1 (ops s)) (λ _ _.
    read_keeps (string_at 0 (ops s)) (λ part p.
    read_keeps (readable_at 0 (ops s)) (λ _ _.
    read_keeps (message_room s.kind s.said part.len) (λ _ m.
    bytes_keeps (string_fits W.shapes (ops s) 0 part o p) (λ bs _.
    says_keeps f (drop 1 (ops s)) part.len bs (drop_fits W.shapes 1 (ops s) o) (said_kept s part.len m))))))

equals_sign_keeps : IsLawful equals_sign
equals_sign_keeps text s W f =
    let o : Fit W.shapes (ops s) = f.state.registers.operands in
    read_keeps (needed 1 (ops s)) (λ _ _.
    read_keeps (object_at 0 (ops s)) (λ x p.
    read_keeps (key_right_at 0 (ops s)) (λ _ _.
    read_keeps (message_room s.kind s.said (plain_length (plain_form x.kind) + 1)) (λ _ m.
    seeking_keeps (FitsPlain W (plain_form x.kind)) (plain_told (plain_form x.kind)) (plain_seeks W x.kind (object_fits W.shapes (ops s) 0 x o p)) (λ bs _.
    says_keeps f (drop 1 (ops s)) (plain_length (plain_form x.kind) + 1) (bs ++ 10 ∷ []) (drop_fits W.shapes 1 (ops s) o) (said_kept s (plain_length (plain_form x.kind) + 1) m))))))

-- ---- messages that show operands

full_line_seeks : (s : State) (W : World) (x : Object) (text : List ℕ) → FitsObject W.shapes x → Seeks W (MaySay s) (full_line s x text)
full_line_seeks s W x text h = then_seeks (MaySay s) (full_text s x text) (full_text_seeks s W x text h) (λ t _. whole_seeks s W (t ++ 10 ∷ []))

full_lines_seek : (s : State) (W : World) (xs : List Object) (text : List ℕ) → Fit W.shapes xs → MaySay s text → Seeks W (MaySay s) (full_lines s xs text)
full_lines_seek s W [] text h m = found_seeks (MaySay s) text m
full_lines_seek s W (x ∷ xs) text h m = then_seeks (MaySay s) (full_line s x text) (full_line_seeks s W x text h.0) (λ t q. full_lines_seek s W xs t h.1 q)

two_equals_signs_keeps : IsLawful two_equals_signs
two_equals_signs_keeps text s W f =
    let o : Fit W.shapes (ops s) = f.state.registers.operands in
    read_keeps (needed 1 (ops s)) (λ _ _.
    read_keeps (object_at 0 (ops s)) (λ x p.
    seeking_keeps (MaySay s) (full_line s x []) (full_line_seeks s W x [] (object_fits W.shapes (ops s) 0 x o p)) (λ bs m.
    says_keeps f (drop 1 (ops s)) (length bs) bs (drop_fits W.shapes 1 (ops s) o) m.within)))

nothing_more : (said budget : ℕ) → said ≤ budget → said + 0 ≤ budget
nothing_more said budget l = omega (arith, l)

pstack_keeps : IsLawful pstack
pstack_keeps text s W f =
    let o : Fit W.shapes (ops s) = f.state.registers.operands in
    seeking_keeps (MaySay s) (full_lines s (ops s) [])
    (full_lines_seek s W (ops s) [] o (record { within = nothing_more s.said (message_budget s.kind) f.state.budget.said })) (λ bs m.
    says_keeps f (ops s) (length bs) bs o m.within)

plain_lines_seek : (W : World) (xs : List Object) (text : List ℕ) → Fit W.shapes xs → Seeks W Any (plain_lines xs text)
plain_lines_seek W [] text h = found_seeks Any text tt
plain_lines_seek W (x ∷ xs) text h =
    then_seeks (FitsPlain W (plain_form x.kind)) (plain_told (plain_form x.kind)) (plain_seeks W x.kind h.0) (λ t _. plain_lines_seek W xs (text ++ t ++ 10 ∷ []) h.1)

stack_keeps : IsLawful stack
stack_keeps text s W f =
    let o : Fit W.shapes (ops s) = f.state.registers.operands in
    read_keeps (all_readable (ops s)) (λ _ _.
    read_keeps (lines_room s (ops s)) (λ n m.
    seeking_keeps Any (plain_lines (ops s) []) (plain_lines_seek W (ops s) [] o) (λ bs _.
    says_keeps f (ops s) n bs o (said_kept s n (lines_allowed s (ops s) n m)))))

-- ---- conversions

fits_by : (len n : ℕ) (t : Bool) → nat_lt len n ≡ t → cond {A = Result (Unit {0}) ErrorName} t (Err RangeCheck) (Ok tt) ≡ Ok tt → n ≤ len
fits_by len n true p q = cc
fits_by len n false p q = grind arith

room_in : (len n : ℕ) → fits_in len n ≡ Ok tt → n ≤ len
room_in len n e = fits_by len n (nat_lt len n) refl e

each_byte : (bs : List ℕ) → are_bytes bs ≡ true → AllByRecursion (λ b. b < 256) bs
unfolding are_bytes
each_byte [] e = tt
each_byte (b ∷ bs) e = go (nat_lt b 256) refl (each_byte bs) e
  where
    go : (t : Bool) → nat_lt b 256 ≡ t → (are_bytes bs ≡ true → AllByRecursion (λ b. b < 256) bs) → (t && are_bytes bs) ≡ true → (b < 256) × AllByRecursion (λ b. b < 256) bs
    go true p later q = (grind arith, later q)
    go false p later q = cc

-- ends with bytes at the front of a string
fills_keeps : {text : List ℕ} {s : State} {W : World} → Fits text W s → (x : Object) (a : Interval) (bs : List ℕ) (xs : List Object) → HasBytes W.shapes a → length bs ≤ a.len → Fit W.shapes xs
    → Keeps text 4 s.frames (fills s x a bs xs) s W
fills_keeps {text = text} {s = s} {W = W} f x a bs xs h l g = go (are_bytes bs) refl
  where
    now : List Object
    now = piece x.exec x.access a 0 (length bs) ∷ xs

    fit : Fit W.shapes now
    fit = (piece_fits x.exec x.access a 0 (length bs) h (omega (arith, l)), g)

    left : Leaves text 4 s.frames s (names_taken (byte_stores a 0 bs)) (quiet (with_ops s now)) W
    left =
        let z = bytes_take_none a 0 bs in
        let e = leaves_kept text 4 s W f now fit in
        record {
          registers = e.registers;
          frames = e.frames;
          act = tt;
          budget = record { turns = f.state.budget.turns; units = f.state.budget.units; shows = f.state.budget.shows; said = f.state.budget.said };
          within = f.within;
          names = omega (arith, z);
        }

    go : (t : Bool) → are_bytes bs ≡ t → Keeps text 4 s.frames (cond t (done (byte_stores a 0 bs) (quiet (with_ops s now))) (fail Undefined)) s W
    go false e = record { lawful = tt }
    go true e = record { lawful = bytes_change W s.count (Leaves text 4 s.frames s (names_taken (byte_stores a 0 bs)) (quiet (with_ops s now))) a h 0 bs (omega (arith, l)) (each_byte bs e) left }

cvs_keeps : IsLawful cvs
cvs_keeps text s W f =
    let o : Fit W.shapes (ops s) = f.state.registers.operands in
    read_keeps (needed 2 (ops s)) (λ _ _.
    read_keeps (string_at 0 (ops s)) (λ a p.
    read_keeps (object_at 0 (ops s)) (λ t _.
    read_keeps (object_at 1 (ops s)) (λ x q.
    read_keeps (writable_at 0 (ops s)) (λ _ _.
    read_keeps (key_right_at 1 (ops s)) (λ _ _.
    read_keeps (fits_in a.len (plain_length (plain_form x.kind))) (λ _ r.
    seeking_keeps (FitsPlain W (plain_form x.kind)) (plain_told (plain_form x.kind)) (plain_seeks W x.kind (object_fits W.shapes (ops s) 1 x o q)) (λ bs g.
    fills_keeps f t a bs (drop 2 (ops s)) (string_fits W.shapes (ops s) 0 a o p)
    (at_most (length bs) (plain_length (plain_form x.kind)) a.len (plain_counts W (plain_form x.kind) bs g) (room_in a.len (plain_length (plain_form x.kind)) r))
    (drop_fits W.shapes 2 (ops s) o)))))))))
  where
    at_most : (n m len : ℕ) → n ≡ m → m ≤ len → n ≤ len
    at_most n m len e l = omega arith

cvrs_keeps : IsLawful cvrs
cvrs_keeps text s W f =
    let o : Fit W.shapes (ops s) = f.state.registers.operands in
    read_keeps (needed 3 (ops s)) (λ _ _.
    read_keeps (string_at 0 (ops s)) (λ a p.
    read_keeps (integer_at 1 (ops s)) (λ i _.
    read_keeps (number_at 2 (ops s)) (λ n _.
    read_keeps (object_at 0 (ops s)) (λ t _.
    read_keeps (writable_at 0 (ops s)) (λ _ _.
    read_keeps (base_of i) (λ base _.
    read_keeps (number_text base n) (λ bs _.
    read_keeps (fits_in a.len (length bs)) (λ _ r.
    fills_keeps f t a bs (drop 3 (ops s)) (string_fits W.shapes (ops s) 0 a o p) (room_in a.len (length bs) r) (drop_fits W.shapes 3 (ops s) o))))))))))

cvn_keeps : IsLawful cvn
cvn_keeps text s W f =
    let o : Fit W.shapes (ops s) = f.state.registers.operands in
    read_keeps (needed 1 (ops s)) (λ _ _.
    read_keeps (string_at 0 (ops s)) (λ a p.
    read_keeps (object_at 0 (ops s)) (λ x _.
    read_keeps (readable_at 0 (ops s)) (λ _ _.
    read_keeps (name_room a.len) (λ _ _.
    bytes_keeps (string_fits W.shapes (ops s) 0 a o p) (λ bs _.
    leaves_keeps f (record { kind = kind.Name bs; exec = x.exec; access = Unlimited } ∷ drop 1 (ops s)) (tt, drop_fits W.shapes 1 (ops s) o)))))))

number_seeks : (W : World) (a : Access) (k : Kind) → FitsCell W.shapes (cell_named k) (takes k) → Seeks W Any (number_told a k)
number_seeks W a (kind.Integer n) h = found_seeks Any (number.Integer n) tt
number_seeks W a (kind.Real r) h = found_seeks Any (number.Real r) tt
number_seeks W a (kind.Str part) h =
    read_seeks (read_right a) (λ _ _.
    then_seeks (AreBytes W part.len) (bytes_of part) (bytes_seek (string_kind W.shapes (kind.Str part) part h refl)) (λ bs _.
    read_seeks (number_in bs) (λ n _.
    found_seeks Any n tt)))
number_seeks W a _ h = record { looks = tt }

cvi_keeps : IsLawful cvi
cvi_keeps text s W f =
    let o : Fit W.shapes (ops s) = f.state.registers.operands in
    read_keeps (needed 1 (ops s)) (λ _ _.
    read_keeps (object_at 0 (ops s)) (λ x p.
    seeking_keeps Any (number_told x.access x.kind) (number_seeks W x.access x.kind (object_fits W.shapes (ops s) 0 x o p)) (λ n _.
    read_keeps (integer_from n) (λ i _.
    leaves_keeps f (literal (kind.Integer i) ∷ drop 1 (ops s)) (tt, drop_fits W.shapes 1 (ops s) o)))))

cvr_keeps : IsLawful cvr
cvr_keeps text s W f =
    let o : Fit W.shapes (ops s) = f.state.registers.operands in
    read_keeps (needed 1 (ops s)) (λ _ _.
    read_keeps (object_at 0 (ops s)) (λ x p.
    seeking_keeps Any (number_told x.access x.kind) (number_seeks W x.access x.kind (object_fits W.shapes (ops s) 0 x o p)) (λ n _.
    leaves_keeps f (literal (kind.Real (real_from n)) ∷ drop 1 (ops s)) (tt, drop_fits W.shapes 1 (ops s) o))))

-- ---- all of them

all_keep : AreLawful operators
all_keep =
    string_keeps ▹ search_keeps ▹ anchorsearch_keeps ▹ cvs_keeps ▹ cvrs_keeps ▹ cvn_keeps ▹ cvi_keeps ▹ cvr_keeps
    ▹ print_keeps ▹ equals_sign_keeps ▹ two_equals_signs_keeps ▹ stack_keeps ▹ pstack_keeps ▹ tt

pub run_keeps : (n : ℕ) → IsLawful (run n)
run_keeps = all_lawful operators all_keep

-- The cells of an object that is read take their names in order.
use Rattle.std.proofs.Common.{◌≡◌, ℕ, zero, suc, ◌+◌, Bool, true, false, cond, ◌&&◌, nat_lt, nat_le, List, [], ◌∷◌, ◌++◌, length, reverse, refl, sym, ap, subst, arith}
use Rattle.std.specs.Bool.{⊤}
use Rattle.ps_names.specs.declared.error_name.ErrorName.TheVariants.{InvalidAccess, LimitCheck, Undefined, VmError}
use Rattle.ps_objects.specs.Object.{cell_named, whole_of}
use Rattle.ps_objects.specs.declared.cell.Cell.{Cell}
use Rattle.ps_objects.specs.declared.key.Key.{Key}
use Rattle.ps_objects.specs.declared.key.Key.TheVariants as key
use Rattle.ps_objects.specs.declared.object.Object.{Object}
use Rattle.ps_objects.specs.declared.object.Kind.TheVariants as kind
use Rattle.ps_objects.specs.declared.place.Shape.{Shape}
use Rattle.ps_objects.specs.declared.place.Shape.TheVariants as shape
use Rattle.ps_objects.specs.declared.place.Value.{Value}
use Rattle.ps_objects.specs.declared.place.Value.TheVariants as value
use Rattle.ps_kinds.specs.declared.state.State.{State}
use Rattle.ps_memory.specs.Tree.{Change, puts, makes, opens, Application, done, restores, fail, look, ask}
use Rattle.ps_meaning.specs.Answer.{names_taken}
use Rattle.ps_meaning.specs.Budgets.{unit_budget}
use Rattle.ps_meaning.specs.Start.{literal}
use Rattle.ps_execution.specs.Gather.{bad, Scanned, Gathering, scanned, executable, next_cell, stores_items, stores_bytes, with_array, with_string, body_object, string_units, names_local, Onward, complete_in, complete, complete_value_in, complete_value, gather_string, open_brace, close_in, end_in, gather_token, gather_scan, gather_from, gather}
use Rattle.ps_execution.specs.Objects.{found_in, searches}
use Rattle.ps_scan.specs.Token.{token_at}
use Rattle.ps_scan.specs.declared.tokens.Scan.{Scan}
use Rattle.ps_scan.specs.declared.tokens.Scan.TheVariants as scan
use Rattle.ps_scan.specs.declared.tokens.Token.{Token}
use Rattle.ps_scan.specs.declared.tokens.Token.TheVariants as token

-- the names that changes take are those from a count on
abbrev pub Follow : ℕ → List Change → Type 0
Follow n [] = ⊤
Follow n (puts l v ∷ ws) = Follow n ws
Follow n (makes c sh ∷ ws) = (c.count ≡ n) × Follow (n + 1) ws
Follow n (opens q ∷ ws) = (q.count ≡ n) × Follow (n + 1) ws

-- each end of a tree has changes that do so
abbrev pub EndsFollow : ℕ → Application Scanned → Type 0
EndsFollow n (done ws x) = Follow n ws
EndsFollow n (restores r ws x) = Follow n ws
EndsFollow n (fail e) = ⊤
EndsFollow n (look l f) = (v : Value) → EndsFollow n (f v)
EndsFollow n (ask c f) = (sh : Shape) → EndsFollow n (f sh)

names_both : (xs ys : List Change) → names_taken (xs ++ ys) ≡ names_taken xs + names_taken ys
names_both [] ys = omega arith
names_both (puts l v ∷ xs) ys = names_both xs ys
names_both (makes c sh ∷ xs) ys = let e = names_both xs ys in omega (arith, e)
names_both (opens q ∷ xs) ys = let e = names_both xs ys in omega (arith, e)

follow_both : (n m : ℕ) (xs ys : List Change) → m ≡ n + names_taken xs → Follow n xs → Follow m ys → Follow n (xs ++ ys)
follow_both n m [] ys e h k = subst (λ i. Follow i ys) (same n m e) k
  where
    same : (n m : ℕ) → m ≡ n + 0 → m ≡ n
    same n m e = omega (arith, e)
follow_both n m (puts l v ∷ xs) ys e h k = follow_both n m xs ys e h k
follow_both n m (makes c sh ∷ xs) ys e h k = (h.0, follow_both (n + 1) m xs ys (omega (arith, e)) h.1 k)
follow_both n m (opens q ∷ xs) ys e h k = (h.0, follow_both (n + 1) m xs ys (omega (arith, e)) h.1 k)

items_follow : (n : ℕ) (c : Cell) (i : ℕ) (xs : List Object) → Follow n (stores_items c i xs)
items_follow n c i [] = tt
items_follow n c i (x ∷ xs) = items_follow n c (suc i) xs

bytes_follow : (n : ℕ) (c : Cell) (i : ℕ) (bs : List ℕ) → Follow n (stores_bytes c i bs)
bytes_follow n c i [] = tt
bytes_follow n c i (b ∷ bs) = bytes_follow n c (suc i) bs

items_unnamed : (c : Cell) (i : ℕ) (xs : List Object) → names_taken (stores_items c i xs) ≡ 0
items_unnamed c i [] = refl
items_unnamed c i (x ∷ xs) = items_unnamed c (suc i) xs

bytes_unnamed : (c : Cell) (i : ℕ) (bs : List ℕ) → names_taken (stores_bytes c i bs) ≡ 0
bytes_unnamed c i [] = refl
bytes_unnamed c i (b ∷ bs) = bytes_unnamed c (suc i) bs

module _ (s : State) where
  -- what was gathered took the next names
  record IsOrdered (g : Gathering) : Type 0 where
    follow : Follow s.count g.changes
    names : names_taken g.changes ≡ g.made

  abbrev IsOnward : Onward → Type 0
  IsOnward k = (place : ℕ) (g : Gathering) → IsOrdered g → EndsFollow s.count (k place g)

  -- the same with units and braces of any number
  same_cells : (g : Gathering) (units : ℕ) (open_ones : List (List Object)) → IsOrdered g → IsOrdered (record g { units = units; open_braces = open_ones })
  same_cells g units open_ones h = record { follow = h.follow; names = h.names }

  -- one more cell
  more : (g : Gathering) (sh : Shape) (stores : List Change) (units : ℕ) → IsOrdered g → Follow (s.count + g.made + 1) stores → names_taken stores ≡ 0
      → IsOrdered (record g { changes = g.changes ++ makes (next_cell s g) sh ∷ stores; made = suc g.made; units = units })
  more g sh stores units h f e = record {
    follow = follow_both s.count (s.count + g.made) g.changes (makes (next_cell s g) sh ∷ stores) (ap (λ n. s.count + n) (sym h.names)) h.follow (refl, f);
    names = let a = names_both g.changes (makes (next_cell s g) sh ∷ stores) in let b = h.names in omega (arith, a, b, e);
  }

  complete_follows : (k : Onward) → IsOnward k → (x : Object) (place : ℕ) (g : Gathering) (ones : List (List Object)) → IsOrdered g → EndsFollow s.count (complete_in k s x place g ones)
  complete_follows k o x place g [] h = h.follow
  complete_follows k o x place g (items ∷ outer) h = go (nat_lt (length items) 65535) (nat_lt g.units (unit_budget s.kind))
    where
      go : (a b : Bool) → EndsFollow s.count (cond a (cond b (k place (record g { units = suc g.units; open_braces = (x ∷ items) ∷ outer })) (scanned (bad VmError) place g)) (scanned (bad LimitCheck) place g))
      go true true = o place (record g { units = suc g.units; open_braces = (x ∷ items) ∷ outer }) (same_cells g (suc g.units) ((x ∷ items) ∷ outer) h)
      go true false = h.follow
      go false b = h.follow

  value_follows : (k : Onward) → IsOnward k → (x : Object) (place : ℕ) (g : Gathering) (ones : List (List Object)) → IsOrdered g → EndsFollow s.count (complete_value_in k s x place g ones)
  value_follows k o x place g [] h = h.follow
  value_follows k o x place g (items ∷ outer) h = go (s.regs.global && names_local (cell_named x.kind))
    where
      go : (a : Bool) → EndsFollow s.count (cond a (scanned (bad InvalidAccess) place g) (complete_in k s x place g (items ∷ outer)))
      go true = h.follow
      go false = complete_follows k o x place g (items ∷ outer) h

  now_follows : (k : Onward) → IsOnward k → (ds : List Cell) (j : Key) (place : ℕ) (g : Gathering) → IsOrdered g → EndsFollow s.count (searches ds j (λ x. complete_value k s x place g) (scanned (bad Undefined) place g))
  now_follows k o [] j place g h = h.follow
  now_follows k o (d ∷ ds) j place g h = λ v. go v (now_follows k o ds j place g h)
    where
      go : (v : Value) → EndsFollow s.count (searches ds j (λ x. complete_value k s x place g) (scanned (bad Undefined) place g))
          → EndsFollow s.count (found_in v (λ x. complete_value k s x place g) (searches ds j (λ x. complete_value k s x place g) (scanned (bad Undefined) place g)))
      go (value.Object x) l = value_follows k o x place g g.open_braces h
      go value.Absent l = l
      go (value.Byte n) l = l
      go (value.Access a) l = l
      go (value.Keys ks) l = l
      go (value.Rand n) l = l
      go (value.Paper p) l = l

  string_follows : (k : Onward) → IsOnward k → (bs : List ℕ) (place : ℕ) (g : Gathering) → IsOrdered g → EndsFollow s.count (gather_string k s bs place g)
  string_follows k o bs place g h = go (nat_le (g.units + string_units (length bs)) (unit_budget s.kind))
    where
      c : Cell
      c = next_cell s g

      one : IsOrdered (with_string c bs (string_units (length bs)) g)
      one = more g (shape.Str (length bs)) (stores_bytes c 0 bs) (g.units + string_units (length bs)) h (bytes_follow (s.count + g.made + 1) c 0 bs) (bytes_unnamed c 0 bs)

      go : (a : Bool) → EndsFollow s.count (cond a (complete k s (literal (kind.Str (whole_of c (length bs)))) place (with_string c bs (string_units (length bs)) g)) (scanned (bad VmError) place g))
      go true = complete_follows k o (literal (kind.Str (whole_of c (length bs)))) place (with_string c bs (string_units (length bs)) g) g.open_braces one
      go false = h.follow

  brace_follows : (k : Onward) → IsOnward k → (place : ℕ) (g : Gathering) → IsOrdered g → EndsFollow s.count (open_brace k place g)
  brace_follows k o place g h = go (nat_lt (length g.open_braces) 1000)
    where
      go : (a : Bool) → EndsFollow s.count (cond a (k place (record g { open_braces = [] ∷ g.open_braces })) (scanned (bad LimitCheck) place g))
      go true = o place (record g { open_braces = [] ∷ g.open_braces }) (same_cells g g.units ([] ∷ g.open_braces) h)
      go false = h.follow

  close_follows : (k : Onward) → IsOnward k → (place : ℕ) (g : Gathering) (ones : List (List Object)) → IsOrdered g → EndsFollow s.count (close_in k s place g ones)
  close_follows k o place g [] h = h.follow
  close_follows k o place g (items ∷ outer) h =
      complete_follows k o (body_object c (length items) s.regs.packing) place (record (with_array c (reverse items) g) { open_braces = outer }) outer
      (same_cells (with_array c (reverse items) g) g.units outer (more g (shape.Array (length (reverse items))) (stores_items c 0 (reverse items)) g.units h (items_follow (s.count + g.made + 1) c 0 (reverse items)) (items_unnamed c 0 (reverse items))))
    where
      c : Cell
      c = next_cell s g

  end_follows : (end place : ℕ) (g : Gathering) (ones : List (List Object)) → IsOrdered g → EndsFollow s.count (end_in end place g ones)
  end_follows end place g [] h = h.follow
  end_follows end place g (items ∷ outer) h = h.follow

  token_follows : (k : Onward) → IsOnward k → (t : Token) (place : ℕ) (g : Gathering) → IsOrdered g → EndsFollow s.count (gather_token k s t place g)
  token_follows k o (token.Integer z) place g h = complete_follows k o (literal (kind.Integer z)) place g g.open_braces h
  token_follows k o (token.Real x) place g h = complete_follows k o (literal (kind.Real x)) place g g.open_braces h
  token_follows k o (token.Literal n) place g h = complete_follows k o (literal (kind.Name n)) place g g.open_braces h
  token_follows k o (token.Exec n) place g h = complete_follows k o (executable (kind.Name n)) place g g.open_braces h
  token_follows k o (token.Now n) place g h = now_follows k o s.regs.dicts (key.Name n) place g h
  token_follows k o (token.Str bs) place g h = string_follows k o bs place g h
  token_follows k o token.BodyBegin place g h = brace_follows k o place g h
  token_follows k o token.BodyEnd place g h = close_follows k o place g g.open_braces h

  scan_follows : (k : Onward) → IsOnward k → (end place : ℕ) (x : Scan) (g : Gathering) → IsOrdered g → EndsFollow s.count (gather_scan k s end place x g)
  scan_follows k o end place (scan.Token t next) g h = token_follows k o t next g h
  scan_follows k o end place scan.End g h = end_follows end place g g.open_braces h
  scan_follows k o end place (scan.Bad e next) g h = h.follow

  from_follows : (n : ℕ) (text : List ℕ) → IsOnward (gather_from n text s)
  from_follows zero text place g h = h.follow
  from_follows (suc n) text place g h = scan_follows (gather_from n text s) (from_follows n text) (length text) place (token_at text place) g h

  pub gather_follows : (text : List ℕ) (place : ℕ) → EndsFollow s.count (gather text place s)
  gather_follows text place = from_follows (suc (length text)) text place (record { changes = []; made = 0; units = s.units; open_braces = [] }) (record { follow = tt; names = refl })

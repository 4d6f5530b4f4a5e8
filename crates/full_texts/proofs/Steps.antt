-- What comes of a text that grows: pieces that are taken or refused, and steps of the loops that show bytes and items.
use Rattle.std.proofs.Common.{◌≡◌, ℕ, zero, suc, ◌+◌, ◌-◌, ◌<◌, Bool, List, ◌++◌, codes, Result, Ok, Err, refl, sym, ap, ◌∙◌, arith}
use Rattle.ps_names.specs.declared.error_name.ErrorName.{ErrorName}
use Rattle.ps_objects.specs.Access.{read_right}
use Rattle.ps_objects.specs.declared.access.Access.{Access}
use Rattle.ps_objects.specs.declared.object.Object.{Object}
use Rattle.ps_objects.specs.declared.objects.Interval.{Interval}
use Rattle.ps_objects.specs.declared.place.Value.TheVariants as value
use Rattle.ps_objects.specs.declared.refusal.Refusal.{Refusal}
use Rattle.ps_objects.specs.declared.refusal.Refusal.TheVariants as refusal
use Rattle.ps_kinds.specs.declared.state.State.{State}
use Rattle.ps_memory.specs.Memory.{value_at}
use Rattle.ps_memory.specs.Tree.{Application, look}
use Rattle.ps_meaning.specs.Answer.{Log, looked_in}
use Rattle.ps_operator.specs.Looks.{byte_then, object_then, byte_place, item_place}
use Rattle.ps_operator.specs.Tree.{read, reads, look_then, found, went_on}
use Rattle.ps_operator.proofs.Then.{reads_then}
use Rattle.full_texts.specs.Growing.{allowed, Growth, whole, Makes, Grows}
use Rattle.full_texts.specs.Bytes.{escaped, bytes_shown, string_shown}
use Rattle.full_texts.specs.Full.{gap, opening, closing, items_shown, array_if, levels_shown, shown_within, items_within}

-- ---- pieces

-- what finds the same grows the same
pub grows_as : (t u : Application (List ℕ)) (mid old : Log) (r : Result (Unit {0}) Refusal) (text : List ℕ) (log : Log) → reads t mid ≡ reads u old → Grows t mid r text log → Grows u old r text log
grows_as t u mid old (Ok x) text log e h = sym e ∙ h
grows_as t u mid old (Err (refusal.Error x)) text log e h = sym e ∙ h
grows_as t u mid old (Err refusal.NoMemory) text log e h = tt

-- a piece at the end of what is told
pub last_piece : (s : State) (text : List ℕ) (r : Result (Unit {0}) Refusal) (t : List ℕ) (log : Log) → Makes (allowed s text) r t → Grows (whole s text) log r t log
last_piece s text (Ok x) t log h = ap (λ (a : Result (List ℕ) ErrorName). reads (read a (λ t. found t)) log) h
last_piece s text (Err (refusal.Error x)) t log h = ap (λ (a : Result (List ℕ) ErrorName). reads (read a (λ t. found t)) log) h
last_piece s text (Err refusal.NoMemory) t log h = tt

-- a piece that is refused
pub piece_refused : (a : Result (List ℕ) ErrorName) (k : Growth) (r : Refusal) (t u : List ℕ) (log : Log) → Makes a (Err r) t → Grows (read a k) log (Err r) u log
piece_refused a k (refusal.Error x) t u log h = ap (λ (a : Result (List ℕ) ErrorName). reads (read a k) log) h
piece_refused a k refusal.NoMemory t u log h = tt

-- a piece that is taken
pub piece_taken : (a : Result (List ℕ) ErrorName) (k : Growth) (t : List ℕ) (log : Log) → a ≡ Ok t → reads (read a k) log ≡ reads (k t) log
piece_taken a k t log h = ap (λ (a : Result (List ℕ) ErrorName). reads (read a k) log) h

-- looks that are refused
pub looks_refused : (t : Application (List ℕ)) (k : Growth) (r : Refusal) (u v : List ℕ) (old log : Log) → Grows t old (Err r) u log → Grows (look_then t k) old (Err r) v log
looks_refused t k (refusal.Error x) u v old log h = reads_then t k old ∙ ap (λ g. went_on g k) h
looks_refused t k refusal.NoMemory u v old log h = tt

-- looks that end
pub looks_end : (t : Application (List ℕ)) (k : Growth) (u : List ℕ) (old log : Log) → reads t old ≡ record { outcome = Ok u; log = log } → reads (look_then t k) old ≡ reads (k u) log
looks_end t k u old log h = reads_then t k old ∙ ap (λ g. went_on g k) h

one_left : (i n : ℕ) → i < n → n - i ≡ suc (n - (i + 1))
one_left i n l = omega arith

-- ---- bytes

module _ (s : State) (part : Interval) (i : ℕ) (text : List ℕ) (log : Log) (b : ℕ) (l : i < part.len) (v : value_at log.view (byte_place part i) ≡ value.Byte b) where
  abbrev bytes_left : Growth
  bytes_left t = bytes_shown s part (i + 1) (part.len - (i + 1)) t

  byte_looked : reads (bytes_shown s part i (part.len - i) text) log ≡ reads (read (allowed s (text ++ escaped b)) bytes_left) (looked_in log (byte_place part i))
  byte_looked =
      ap (λ n. reads (bytes_shown s part i n text) log) (one_left i part.len l)
      ∙ ap (λ w. reads (byte_then (λ b. read (allowed s (text ++ escaped b)) bytes_left) w) (looked_in log (byte_place part i))) v

  pub byte_step : (t : List ℕ) → allowed s (text ++ escaped b) ≡ Ok t
      → reads (bytes_shown s part i (part.len - i) text) log ≡ reads (bytes_shown s part (i + 1) (part.len - (i + 1)) t) (looked_in log (byte_place part i))
  byte_step t a = byte_looked ∙ piece_taken (allowed s (text ++ escaped b)) bytes_left t (looked_in log (byte_place part i)) a

  -- the refusal is that of the whole
  pub byte_refused : (text0 : List ℕ) (old : Log) (r : Refusal) (t u : List ℕ) → reads (bytes_shown s part i (part.len - i) text) log ≡ reads (bytes_shown s part 0 part.len text0) old → Makes (allowed s (text ++ escaped b)) (Err r) t
      → Grows (bytes_shown s part 0 part.len text0) old (Err r) u (looked_in log (byte_place part i))
  byte_refused text0 old r t u told h =
      grows_as (read (allowed s (text ++ escaped b)) bytes_left) (bytes_shown s part 0 part.len text0) (looked_in log (byte_place part i)) old (Err r) u (looked_in log (byte_place part i)) (sym byte_looked ∙ told)
      (piece_refused (allowed s (text ++ escaped b)) bytes_left r t u (looked_in log (byte_place part i)) h)

-- ---- strings

module _ (s : State) (right : Access) (part : Interval) (text : List ℕ) (log : Log) where
  abbrev string_ends : Growth
  string_ends u = whole s (u ++ codes ")")

  abbrev string_goes_on : Growth
  string_goes_on t = look_then (bytes_shown s part 0 part.len t) string_ends

  string_read : read_right right ≡ Ok tt → reads (string_shown s right part text) log ≡ reads (read (allowed s (text ++ codes "(")) string_goes_on) log
  string_read e = ap (λ (a : Result (Unit {0}) ErrorName). reads (read a (λ _. read (allowed s (text ++ codes "(")) string_goes_on)) log) e

  pub string_unread : (e : ErrorName) → read_right right ≡ Err e → reads (string_shown s right part text) log ≡ record { outcome = Err e; log = log }
  string_unread e h = ap (λ (a : Result (Unit {0}) ErrorName). reads (read a (λ _. read (allowed s (text ++ codes "(")) string_goes_on)) log) h

  pub string_unopened : (r : Refusal) (t u : List ℕ) → read_right right ≡ Ok tt → Makes (allowed s (text ++ codes "(")) (Err r) t → Grows (string_shown s right part text) log (Err r) u log
  string_unopened r t u e h =
      grows_as (read (allowed s (text ++ codes "(")) string_goes_on) (string_shown s right part text) log log (Err r) u log (sym (string_read e))
      (piece_refused (allowed s (text ++ codes "(")) string_goes_on r t u log h)

  string_opened : (t : List ℕ) → read_right right ≡ Ok tt → allowed s (text ++ codes "(") ≡ Ok t → reads (string_shown s right part text) log ≡ reads (string_goes_on t) log
  string_opened t e h = string_read e ∙ piece_taken (allowed s (text ++ codes "(")) string_goes_on t log h

  pub string_cut : (t : List ℕ) (r : Refusal) (u w : List ℕ) (new : Log) → read_right right ≡ Ok tt → allowed s (text ++ codes "(") ≡ Ok t → Grows (bytes_shown s part 0 part.len t) log (Err r) u new → Grows (string_shown s right part text) log (Err r) w new
  string_cut t r u w new e h g =
      grows_as (string_goes_on t) (string_shown s right part text) log log (Err r) w new (sym (string_opened t e h))
      (looks_refused (bytes_shown s part 0 part.len t) string_ends r u w log new g)

  pub string_closed : (t u : List ℕ) (new : Log) (r : Result (Unit {0}) Refusal) (w : List ℕ) → read_right right ≡ Ok tt → allowed s (text ++ codes "(") ≡ Ok t → Grows (bytes_shown s part 0 part.len t) log (Ok tt) u new
      → Makes (allowed s (u ++ codes ")")) r w → Grows (string_shown s right part text) log r w new
  string_closed t u new r w e h g m =
      grows_as (string_ends u) (string_shown s right part text) new log r w new (sym (string_opened t e h ∙ looks_end (bytes_shown s part 0 part.len t) string_ends u log new g))
      (last_piece s (u ++ codes ")") r w new m)

-- ---- items

module _ (n : ℕ) (s : State) (a : Interval) (i : ℕ) (text : List ℕ) (log : Log) (l : i < a.len) where
  abbrev item : Object → Growth
  item = shown_within n s

  abbrev items_left : Growth
  items_left u = items_shown s item a (i + 1) (a.len - (i + 1)) u

  abbrev item_goes_on : List ℕ → Object → Application (List ℕ)
  item_goes_on t x = look_then (item x t) items_left

  abbrev items_go_on : Growth
  items_go_on t = look (item_place a i) (object_then (item_goes_on t))

  items_begin : reads (items_shown s item a i (a.len - i) text) log ≡ reads (read (allowed s (text ++ gap i)) items_go_on) log
  items_begin = ap (λ n. reads (items_shown s item a i n text) log) (one_left i a.len l)

  item_looked : (t : List ℕ) (x : Object) → allowed s (text ++ gap i) ≡ Ok t → value_at log.view (item_place a i) ≡ value.Object x
      → reads (items_shown s item a i (a.len - i) text) log ≡ reads (item_goes_on t x) (looked_in log (item_place a i))
  item_looked t x h v =
      items_begin
      ∙ piece_taken (allowed s (text ++ gap i)) items_go_on t log h
      ∙ ap (λ w. reads (object_then (item_goes_on t) w) (looked_in log (item_place a i))) v

  pub item_step : (t : List ℕ) (x : Object) (u : List ℕ) (new : Log) → allowed s (text ++ gap i) ≡ Ok t → value_at log.view (item_place a i) ≡ value.Object x
      → reads (shown_within n s x t) (looked_in log (item_place a i)) ≡ record { outcome = Ok u; log = new }
      → reads (items_shown s (shown_within n s) a i (a.len - i) text) log ≡ reads (items_shown s (shown_within n s) a (i + 1) (a.len - (i + 1)) u) new
  item_step t x u new h v g = item_looked t x h v ∙ looks_end (item x t) items_left u (looked_in log (item_place a i)) new g

  -- the refusal is that of the whole
  module _ (text0 : List ℕ) (old : Log) (told : reads (items_shown s (shown_within n s) a i (a.len - i) text) log ≡ reads (items_within n s a text0) old) where
    pub gap_refused : (r : Refusal) (t u : List ℕ) → Makes (allowed s (text ++ gap i)) (Err r) t → Grows (items_within n s a text0) old (Err r) u log
    gap_refused r t u h =
        grows_as (read (allowed s (text ++ gap i)) items_go_on) (items_within n s a text0) log old (Err r) u log (sym items_begin ∙ told)
        (piece_refused (allowed s (text ++ gap i)) items_go_on r t u log h)

    pub item_refused : (t : List ℕ) (x : Object) (r : Refusal) (u w : List ℕ) (new : Log) → allowed s (text ++ gap i) ≡ Ok t → value_at log.view (item_place a i) ≡ value.Object x
        → Grows (shown_within n s x t) (looked_in log (item_place a i)) (Err r) u new → Grows (items_within n s a text0) old (Err r) w new
    item_refused t x r u w new h v g =
        grows_as (item_goes_on t x) (items_within n s a text0) (looked_in log (item_place a i)) old (Err r) w new (sym (item_looked t x h v) ∙ told)
        (looks_refused (item x t) items_left r u w (looked_in log (item_place a i)) new g)

-- ---- arrays

by_depth : (m : ℕ) (s : State) (exec : Bool) (right : Access) (a : Interval) (text : List ℕ) (log : Log) → m ≡ 0 → reads (whole s (text ++ codes "...")) log ≡ reads (levels_shown m s exec right a text) log
unfolding levels_shown
by_depth zero s exec right a text log e = refl
by_depth (suc m) s exec right a text log e = absurd (omega (arith, e))

by_level : (m : ℕ) (s : State) (exec : Bool) (right : Access) (a : Interval) (text : List ℕ) (log : Log) → (m ≡ 0 → ⊥)
    → reads (levels_shown m s exec right a text) log ≡ reads (array_if s (shown_within (m - 1) s) exec a (read_right right) text) log
unfolding levels_shown
by_level zero s exec right a text log h = absurd (h refl)
by_level (suc m) s exec right a text log h = let p : m ≡ suc m - 1 = omega arith in ap (λ k. reads (array_if s (shown_within k s) exec a (read_right right) text) log) p

module _ (m : ℕ) (s : State) (exec : Bool) (right : Access) (a : Interval) (text : List ℕ) (log : Log) where
  pub too_deep : (r : Result (Unit {0}) Refusal) (t : List ℕ) → m ≡ 0 → Makes (allowed s (text ++ codes "...")) r t → Grows (levels_shown m s exec right a text) log r t log
  too_deep r t e h = grows_as (whole s (text ++ codes "...")) (levels_shown m s exec right a text) log log r t log (by_depth m s exec right a text log e) (last_piece s (text ++ codes "...") r t log h)

  -- within the levels that are left
  module _ (some : m ≡ 0 → ⊥) where
    abbrev array_ends : Growth
    array_ends u = whole s (u ++ closing exec)

    abbrev array_goes_on : Growth
    array_goes_on t = look_then (items_within (m - 1) s a t) array_ends

    abbrev by_right : Result (Unit {0}) ErrorName → Application (List ℕ)
    by_right e = array_if s (shown_within (m - 1) s) exec a e text

    in_levels : reads (levels_shown m s exec right a text) log ≡ reads (by_right (read_right right)) log
    in_levels = by_level m s exec right a text log some

    array_read : read_right right ≡ Ok tt → reads (levels_shown m s exec right a text) log ≡ reads (read (allowed s (text ++ opening exec)) array_goes_on) log
    array_read e = in_levels ∙ ap (λ e. reads (by_right e) log) e

    pub array_unread : (e : ErrorName) (r : Result (Unit {0}) Refusal) (t : List ℕ) → read_right right ≡ Err e → Makes (allowed s (text ++ codes "-array-")) r t → Grows (levels_shown m s exec right a text) log r t log
    array_unread e r t h g =
        grows_as (whole s (text ++ codes "-array-")) (levels_shown m s exec right a text) log log r t log (sym (in_levels ∙ ap (λ e. reads (by_right e) log) h))
        (last_piece s (text ++ codes "-array-") r t log g)

    pub array_unopened : (r : Refusal) (t u : List ℕ) → read_right right ≡ Ok tt → Makes (allowed s (text ++ opening exec)) (Err r) t → Grows (levels_shown m s exec right a text) log (Err r) u log
    array_unopened r t u e h =
        grows_as (read (allowed s (text ++ opening exec)) array_goes_on) (levels_shown m s exec right a text) log log (Err r) u log (sym (array_read e))
        (piece_refused (allowed s (text ++ opening exec)) array_goes_on r t u log h)

    array_opened : (t : List ℕ) → read_right right ≡ Ok tt → allowed s (text ++ opening exec) ≡ Ok t → reads (levels_shown m s exec right a text) log ≡ reads (array_goes_on t) log
    array_opened t e h = array_read e ∙ piece_taken (allowed s (text ++ opening exec)) array_goes_on t log h

    pub array_cut : (t : List ℕ) (r : Refusal) (u w : List ℕ) (new : Log) → read_right right ≡ Ok tt → allowed s (text ++ opening exec) ≡ Ok t → Grows (items_within (m - 1) s a t) log (Err r) u new
        → Grows (levels_shown m s exec right a text) log (Err r) w new
    array_cut t r u w new e h g =
        grows_as (array_goes_on t) (levels_shown m s exec right a text) log log (Err r) w new (sym (array_opened t e h))
        (looks_refused (items_within (m - 1) s a t) array_ends r u w log new g)

    pub array_closed : (t u : List ℕ) (new : Log) (r : Result (Unit {0}) Refusal) (w : List ℕ) → read_right right ≡ Ok tt → allowed s (text ++ opening exec) ≡ Ok t
        → reads (items_within (m - 1) s a t) log ≡ record { outcome = Ok u; log = new } → Makes (allowed s (u ++ closing exec)) r w → Grows (levels_shown m s exec right a text) log r w new
    array_closed t u new r w e h g k =
        grows_as (array_ends u) (levels_shown m s exec right a text) new log r w new (sym (array_opened t e h ∙ looks_end (items_within (m - 1) s a t) array_ends u log new g))
        (last_piece s (u ++ closing exec) r w new k)

-- What is told of an object.
use Rattle.std.proofs.Common.{◌≡◌, ℕ, zero, suc, ◌+◌, true, false, true≢false, List, [], ◌∷◌, ◌++◌, Option, Some, None, Result, Ok, Err, refl, sym, ap, ◌∙◌, subst, arith}
use Rattle.ps_names.specs.declared.error_name.ErrorName.{ErrorName}
use Rattle.ps_objects.specs.declared.object.Object.{Object}
use Rattle.ps_objects.specs.declared.object.Kind.{Kind}
use Rattle.ps_objects.specs.declared.object.Kind.TheVariants as kind
use Rattle.ps_objects.specs.declared.objects.Interval.{Interval}
use Rattle.ps_objects.specs.declared.place.Loc.TheVariants as loc
use Rattle.ps_objects.specs.declared.place.Value.{Value}
use Rattle.ps_objects.specs.declared.place.Value.TheVariants as value
use Rattle.ps_memory.specs.Memory.{Memory, value_at, Output}
use Rattle.ps_memory.specs.Tree.{applied}
use Rattle.ps_meaning.specs.Answer.{Log, looked_in}
use Rattle.ps_operator.specs.Keys.{bytes_from, bytes_of}
use Rattle.ps_operator.specs.Looks.{byte_then}
use Rattle.ps_operator.specs.Standing.{is_string}
use Rattle.ps_operator.specs.Tree.{Reading, reads}
use Rattle.ps_execution.specs.Objects.{byte_in, looks_at_bytes}
use Rattle.ps_execution.specs.Reached.{reached}
use Rattle.ps_execution.specs.Section as meaning
use Rattle.ps_report.specs.Reports.{string_in, string_stands, Leads, Onward}

abbrev Same : Result (List ℕ) ErrorName → Result (List ℕ) ErrorName → Type 0
Same p q = p ≡ q

ok_same : {x y : List ℕ} → Same (Ok x) (Ok y) → x ≡ y
ok_same e = cc

not_ok : {x : ErrorName} {y : List ℕ} → Same (Err x) (Ok y) → ⊥
not_ok e = cc

append_none : (xs : List ℕ) → xs ++ [] ≡ xs
append_none [] = refl
append_none (x ∷ xs) = ap (λ ys. x ∷ ys) (append_none xs)

append_one : (xs : List ℕ) (y : ℕ) (ys : List ℕ) → (xs ++ y ∷ []) ++ ys ≡ xs ++ y ∷ ys
append_one [] y ys = refl
append_one (x ∷ xs) y ys = ap (λ zs. x ∷ zs) (append_one xs y ys)

-- ---- the bytes of a string, as both trees look at them

module _ (there : Log) (bs : List ℕ) (a : Interval) (out : List Output) where
  from : (n at : ℕ) (seen : List ℕ) (k : Onward (List ℕ)) (log : Log) → reads (bytes_from a at n seen) log ≡ record { outcome = Ok bs; log = there }
      → reached (applied (looks_at_bytes a.cell (a.start + at) n (λ cs. k (seen ++ cs)))) log out ≡ reached (applied (k bs)) there out
  from zero at seen k log e =
      let p : seen ≡ bs = ok_same (ap (λ (r : Reading (List ℕ)). r.outcome) e) in
      let q : log ≡ there = ap (λ (r : Reading (List ℕ)). r.log) e in
      ap (λ cs. reached (applied (k cs)) log out) (append_none seen ∙ p) ∙ ap (λ l. reached (applied (k bs)) l out) q
  from (suc n) at seen k log e = go (value_at log.view (loc.Byte a.cell (a.start + at))) (from n (at + 1)) e
    where
      step : a.start + (at + 1) ≡ suc (a.start + at)
      step = omega arith

      go : (v : Value) → ((seen : List ℕ) (k : Onward (List ℕ)) (log : Log) → reads (bytes_from a (at + 1) n seen) log ≡ record { outcome = Ok bs; log = there }
          → reached (applied (looks_at_bytes a.cell (a.start + (at + 1)) n (λ cs. k (seen ++ cs)))) log out ≡ reached (applied (k bs)) there out)
          → reads (byte_then (λ b. bytes_from a (at + 1) n (seen ++ b ∷ [])) v) (looked_in log (loc.Byte a.cell (a.start + at))) ≡ record { outcome = Ok bs; log = there }
          → reached (applied (looks_at_bytes a.cell (suc (a.start + at)) n (λ cs. k (seen ++ byte_in v ∷ cs)))) (looked_in log (loc.Byte a.cell (a.start + at))) out ≡ reached (applied (k bs)) there out
      go (value.Byte b) r e =
          ap (λ i. reached (applied (looks_at_bytes a.cell i n (λ cs. k (seen ++ b ∷ cs)))) (looked_in log (loc.Byte a.cell (a.start + at))) out) (sym step)
          ∙ ap (λ f. reached (applied (looks_at_bytes a.cell (a.start + (at + 1)) n f)) (looked_in log (loc.Byte a.cell (a.start + at))) out) (λ i cs. k (sym (append_one seen b cs) i))
          ∙ r (seen ++ b ∷ []) k (looked_in log (loc.Byte a.cell (a.start + at))) e
      go value.Absent r e = absurd (not_ok (ap (λ (r : Reading (List ℕ)). r.outcome) e))
      go (value.Object x) r e = absurd (not_ok (ap (λ (r : Reading (List ℕ)). r.outcome) e))
      go (value.Access x) r e = absurd (not_ok (ap (λ (r : Reading (List ℕ)). r.outcome) e))
      go (value.Keys ks) r e = absurd (not_ok (ap (λ (r : Reading (List ℕ)). r.outcome) e))
      go (value.Rand m) r e = absurd (not_ok (ap (λ (r : Reading (List ℕ)). r.outcome) e))
      go (value.Paper p) r e = absurd (not_ok (ap (λ (r : Reading (List ℕ)). r.outcome) e))

looked_whole : (a : Interval) (bs : List ℕ) (k : Onward (List ℕ)) (log there : Log) → reads (bytes_of a) log ≡ record { outcome = Ok bs; log = there } → Leads (looks_at_bytes a.cell a.start a.len k) log (k bs) there
looked_whole a bs k log there e out = ap (λ i. reached (applied (looks_at_bytes a.cell i a.len k)) log out) start ∙ from there bs a out a.len 0 [] k log e
  where
    start : a.start ≡ a.start + 0
    start = omega arith

-- ---- objects

some_same : {a b : Interval} → Some a ≡ Some b → a ≡ b
some_same e = cc

not_some : {a : Interval} → None ≡ Some a → ⊥
not_some e = cc

module _ (x : Object) (k : Onward meaning.Told) where
  told_string_by : (t : Kind) (part : Interval) (bs : List ℕ) (log there : Log) → string_in t ≡ Some part → reads (bytes_of part) log ≡ record { outcome = Ok bs; log = there }
      → Leads (meaning.told_kind x t k) log (k (record { object = x; bytes = bs })) there
  told_string_by (kind.Str a) part bs log there e h = looked_whole a bs (λ cs. k (record { object = x; bytes = cs })) log there (subst (λ b. reads (bytes_of b) log ≡ record { outcome = Ok bs; log = there }) (sym (some_same e)) h)
  told_string_by _ part bs log there e h = absurd (not_some e)

  told_plain_by : (t : Kind) → string_in t ≡ None → (log : Log) → Leads (meaning.told_kind x t k) log (k (record { object = x; bytes = [] })) log
  told_plain_by (kind.Str a) e log out = absurd (not_some (sym e))
  told_plain_by _ e log out = refl

pub told_string : (x : Object) (part : Interval) (bs : List ℕ) (log there : Log) → string_in x.kind ≡ Some part → reads (bytes_of part) log ≡ record { outcome = Ok bs; log = there }
    → (k : Onward meaning.Told) → Leads (meaning.told_kind x x.kind k) log (k (record { object = x; bytes = bs })) there
told_string x part bs log there e h k = told_string_by x k x.kind part bs log there e h

pub told_plain : (x : Object) (log : Log) → string_in x.kind ≡ None → (k : Onward meaning.Told) → Leads (meaning.told_kind x x.kind k) log (k (record { object = x; bytes = [] })) log
told_plain x log e k = told_plain_by x k x.kind e log

pub string_here : (M : Memory) (t : Kind) (part : Interval) → string_in t ≡ Some part → string_stands M t ≡ true → is_string M part ≡ true
string_here M (kind.Str a) part e h = subst (λ b. is_string M b ≡ true) (some_same e) h
string_here M _ part e h = absurd (not_some e)

-- What two sinks get one after the other they get together.
use Rattle.std.proofs.Common.{ℕ, ◌+◌, List, ◌++◌, [], length, take, subst, Option, Some, None, ap, sym, refl, ◌∙◌, append-nil, append_assoc, length-append, arith}
use Rattle.std.proofs.lemmas.Grind.{flat_map-append}
use Rattle.std.proofs.lemmas.List.{take-append-le}
use Rattle.std.proofs.Math.Seq.{take-append-add, take-length}
use Rattle.std.specs.Prelude.{option_map}
use Rattle.ps_shapes.specs.Sheet.{Sheet}
use Rattle.rip_ports.specs.Ports.{Appends, AppendsFront}
use Rattle.out_writers.specs.Texts.{picture_text, pictures}
use Rattle.out_writers.specs.ToSinks.{IsOver, WritesAll, WritesFront}
use Rattle.out_writers.specs.declared.to_sinks.ToSinks.{ToSinks}

-- where nothing is appended a sink holds what it held
pub none_appended : (held : Option (List ℕ)) → Appends [] held held
none_appended None = refl
none_appended (Some bytes) = ap Some (sym (append-nil bytes))

-- what is appended, and then more, is appended together
pub appended : (a b : List ℕ) (o m n : Option (List ℕ)) → Appends a o m → Appends b m n → Appends (a ++ b) o n
appended a b None m n p q = q ∙ ap (option_map (λ s. s ++ b)) p
appended a b (Some bytes) m n p q = q ∙ ap (option_map (λ s. s ++ b)) p ∙ ap Some (append_assoc bytes a b)

-- what is appended, and then a front of more, is a front of both
pub front_appended : (a b : List ℕ) (o m n : Option (List ℕ)) → Appends a o m → AppendsFront b m n → AppendsFront (a ++ b) o n
front_appended a b o m n p (k, l, q) = (
  length a + k,
  (rw length-append (omega arith)),
  (let P : List ℕ → Type 0 = λ s. Appends s o n in subst P (sym (take-append-add a b k)) (appended a (take k b) o m n p q)),
)

-- all of it is a front of it
pub whole_appended : (a : List ℕ) (o n : Option (List ℕ)) → Appends a o n → AppendsFront a o n
whole_appended a o n p = (length a, omega arith, (let P : List ℕ → Type 0 = λ s. Appends s o n in subst P (sym (take-length a)) p))

-- a front of it is a front of more
pub longer_appended : (a b : List ℕ) (o n : Option (List ℕ)) → AppendsFront a o n → AppendsFront (a ++ b) o n
longer_appended a b o n (k, l, p) =
    (k, (rw length-append (omega arith)), (let P : List ℕ → Type 0 = λ s. Appends s o n in subst P (sym (take-append-le k a b l)) p))

-- two sinks stand over themselves
pub same : {P B : Type 0} (o : ToSinks P B) → IsOver o o
same o = record { pages = refl; back = refl }

over_over : {P B : Type 0} (n m o : ToSinks P B) → IsOver m o → IsOver n m → IsOver n o
over_over n m o a b = record { pages = b.pages ∙ a.pages; back = b.back ∙ a.back }

more_pictures : (papers more : List Sheet) (o n : Option (List ℕ)) → Appends (pictures papers ++ pictures more) o n → Appends (pictures (papers ++ more)) o n
unfolding pictures
more_pictures papers more o n p = let P : List ℕ → Type 0 = λ s. Appends s o n in subst P (sym (flat_map-append picture_text papers more)) p

more_front : (papers more : List Sheet) (o n : Option (List ℕ)) → AppendsFront (pictures papers ++ pictures more) o n → AppendsFront (pictures (papers ++ more)) o n
unfolding pictures
more_front papers more o n p = let P : List ℕ → Type 0 = λ s. AppendsFront s o n in subst P (sym (flat_map-append picture_text papers more)) p

-- two sinks were given nothing since themselves
pub nothing : {P B : Type 0} (h : P → Option (List ℕ)) (k : B → Option (List ℕ)) (o : ToSinks P B) → WritesAll h k o o [] []
unfolding pictures
nothing h k o = record { over = same o; pages = none_appended (h o.pages.now); said = none_appended (k o.back.now) }

-- what both were given, and then more, they were given together
pub joined : {P B : Type 0} (h : P → Option (List ℕ)) (k : B → Option (List ℕ)) (n m o : ToSinks P B) (papers more : List Sheet) (text rest : List ℕ) →
    WritesAll h k m o papers text → WritesAll h k n m more rest → WritesAll h k n o (papers ++ more) (text ++ rest)
joined h k n m o papers more text rest a b = record {
  over = over_over n m o a.over b.over;
  pages = more_pictures papers more (h o.pages.now) (h n.pages.now) (appended (pictures papers) (pictures more) (h o.pages.now) (h m.pages.now) (h n.pages.now) a.pages b.pages);
  said = appended text rest (k o.back.now) (k m.back.now) (k n.back.now) a.said b.said;
}

-- what both were given, and then a front of more, is a front of both
pub joined_cut : {P B : Type 0} (h : P → Option (List ℕ)) (k : B → Option (List ℕ)) (n m o : ToSinks P B) (papers more : List Sheet) (text rest : List ℕ) →
    WritesAll h k m o papers text → WritesFront h k n m more rest → WritesFront h k n o (papers ++ more) (text ++ rest)
joined_cut h k n m o papers more text rest a b = record {
  over = over_over n m o a.over b.over;
  pages = more_front papers more (h o.pages.now) (h n.pages.now) (front_appended (pictures papers) (pictures more) (h o.pages.now) (h m.pages.now) (h n.pages.now) a.pages b.pages);
  said = front_appended text rest (k o.back.now) (k m.back.now) (k n.back.now) a.said b.said;
}

-- all that they were given is a front of it
pub whole : {P B : Type 0} (h : P → Option (List ℕ)) (k : B → Option (List ℕ)) (n o : ToSinks P B) (papers : List Sheet) (text : List ℕ) →
    WritesAll h k n o papers text → WritesFront h k n o papers text
whole h k n o papers text a = record {
  over = a.over;
  pages = whole_appended (pictures papers) (h o.pages.now) (h n.pages.now) a.pages;
  said = whole_appended text (k o.back.now) (k n.back.now) a.said;
}

-- a front of it is a front of more
pub longer : {P B : Type 0} (h : P → Option (List ℕ)) (k : B → Option (List ℕ)) (n o : ToSinks P B) (papers more : List Sheet) (text rest : List ℕ) →
    WritesFront h k n o papers text → WritesFront h k n o (papers ++ more) (text ++ rest)
longer h k n o papers more text rest a = record {
  over = a.over;
  pages = more_front papers more (h o.pages.now) (h n.pages.now) (longer_appended (pictures papers) (pictures more) (h o.pages.now) (h n.pages.now) a.pages);
  said = longer_appended text rest (k o.back.now) (k n.back.now) a.said;
}

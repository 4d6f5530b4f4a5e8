-- A picture that is put by its header and its rows.
use Rattle.std.proofs.Common.{◌≡◌, ℕ, List, [], ◌∷◌, Option, sym, subst, append-nil}
use Rattle.std.specs.Prelude.{OnErr, Result, Ok, Err}
use Rattle.ps_shapes.specs.Picture.{picture_bytes}
use Rattle.ps_shapes.specs.Sheet.{Sheet}
use Rattle.rip_ports.specs.Ports.{Appends, AppendsFront}
use Rattle.out_writers.specs.Texts.{picture_header, picture_text, pictures}
use Rattle.out_writers.specs.Writing.{appended, front_appended, longer_appended, none_appended, whole_appended}

one_picture : (s : Sheet) → pictures (s ∷ []) ≡ picture_text s
unfolding pictures
one_picture s = append-nil (picture_text s)

as_picture : (s : Sheet) (o n : Option (List ℕ)) → AppendsFront (picture_text s) o n → AppendsFront (pictures (s ∷ [])) o n
as_picture s o n p = let P : List ℕ → Type 0 = λ t. AppendsFront t o n in subst P (sym (one_picture s)) p

-- the header was cut
pub header_cut : (s : Sheet) (head : List ℕ) (o n : Option (List ℕ)) → head ≡ picture_header s → AppendsFront head o n →
    AppendsFront (pictures (s ∷ [])) o n
header_cut s head o n h p =
    as_picture s o n (longer_appended (picture_header s) (picture_bytes s) o n (let P : List ℕ → Type 0 = λ t. AppendsFront t o n in subst P h p))

-- the rows were cut
pub rows_cut : (s : Sheet) (head rows : List ℕ) (o m n : Option (List ℕ)) → head ≡ picture_header s → rows ≡ picture_bytes s →
    Appends head o m → AppendsFront rows m n → AppendsFront (pictures (s ∷ [])) o n
rows_cut s head rows o m n h r p q =
    as_picture s o n (front_appended (picture_header s) (picture_bytes s) o m n
    (let P : List ℕ → Type 0 = λ t. Appends t o m in subst P h p)
    (let P : List ℕ → Type 0 = λ t. AppendsFront t m n in subst P r q))

-- both were put
pub both_put : (s : Sheet) (head rows : List ℕ) (o m n : Option (List ℕ)) → head ≡ picture_header s → rows ≡ picture_bytes s →
    Appends head o m → Appends rows m n → Appends (pictures (s ∷ [])) o n
both_put s head rows o m n h r p q =
    let P : List ℕ → Type 0 = λ t. Appends t o n in
    subst P (sym (one_picture s)) (appended (picture_header s) (picture_bytes s) o m n
    (let Q : List ℕ → Type 0 = λ t. Appends t o m in subst Q h p)
    (let Q : List ℕ → Type 0 = λ t. Appends t m n in subst Q r q))

-- nothing was put
pub none_put : (s : Sheet) (held : Option (List ℕ)) → AppendsFront (pictures (s ∷ [])) held held
none_put s held = longer_appended [] (pictures (s ∷ [])) held held (whole_appended [] held held (none_appended held))

-- nothing was said
pub none_said : (held : Option (List ℕ)) → AppendsFront [] held held
none_said held = whole_appended [] held held (none_appended held)

-- what holds anyway holds after a refusal
pub refused : {A E : Type 0} (r : Result A E) (P : Type 0) → P → OnErr r P
refused (Ok x) P p = tt
refused (Err e) P p = p

-- no page was shown
pub none_shown : (held : Option (List ℕ)) → Appends (pictures []) held held
unfolding pictures
none_shown held = none_appended held

-- Trees that only look: that they look lawfully, in lemmas that follow the tree.
use Rattle.std.proofs.Common.{◌≡◌, ℕ, List, Result, Ok, Err, refl}
use Rattle.std.specs.Bool.{⊤}
use Rattle.ps_names.specs.declared.error_name.ErrorName.{ErrorName}
use Rattle.ps_objects.specs.declared.cell.Cell.{Cell}
use Rattle.ps_objects.specs.declared.key.Key.{Key}
use Rattle.ps_objects.specs.declared.key.KeyForm.{KeyForm}
use Rattle.ps_objects.specs.declared.object.Object.{Object}
use Rattle.ps_objects.specs.declared.objects.Interval.{Interval}
use Rattle.ps_kinds.specs.declared.frame.Frame.{Frame}
use Rattle.ps_kinds.specs.declared.state.State.{State}
use Rattle.ps_memory.specs.Tree.{Application, done, restores, fail, look, ask}
use Rattle.std.specs.List.{AllByRecursion}
use Rattle.ps_meaning.specs.Fits.{FitsObject, IsDict}
use Rattle.ps_meaning.specs.Sound.{World}
use Rattle.ps_operator.specs.Tree.{Ask, read, look_then, found}
use Rattle.ps_operator.specs.Keys.{bytes_of, key_of, find}
use Rattle.ps_operator.specs.Lawful.{HasBytes, HasForm, Looks, Keeps}
use Rattle.ps_operator.proofs.Lawful.{AreBytes, bytes_look_lawfully, IsKeyOf, key_look, find_look, then_looks, then_keeps}

-- what the tree finds has P; a record, so that its arguments are found
pub record Seeks {A : Type 0} (W : World) (P : A → Type 0) (t : Application A) : Type 0 where
  pub looks : Looks t W P

-- whatever it finds
abbrev pub Any : {A : Type 0} → A → Type 0
Any x = ⊤

pub found_seeks : {A : Type 0} {W : World} (P : A → Type 0) (x : A) → P x → Seeks W P (found x)
found_seeks P x h = record { looks = h }

pub read_seeks : {A B : Type 0} {W : World} {P : B → Type 0} {k : A → Application B} (r : Result A ErrorName)
    → ((x : A) → r ≡ Ok x → Seeks W P (k x)) → Seeks W P (read r k)
read_seeks {A = A} {B = B} {W = W} {P = P} {k = k} r h = record { looks = go r h }
  where
    go : (r : Result A ErrorName) → ((x : A) → r ≡ Ok x → Seeks W P (k x)) → Looks (read r k) W P
    go (Ok x) h = (h x refl).looks
    go (Err e) h = tt

pub then_seeks : {A B : Type 0} {W : World} {P : B → Type 0} {k : A → Application B} (Q : A → Type 0) (t : Application A)
    → Seeks W Q t → ((x : A) → Q x → Seeks W P (k x)) → Seeks W P (look_then t k)
then_seeks {W = W} {P = P} {k = k} Q t h g = record { looks = then_looks W t k Q P h.looks (λ x q. (g x q).looks) }

weaker : {A : Type 0} (W : World) (P Q : A → Type 0) (t : Application A) → ((x : A) → P x → Q x) → Looks t W P → Looks t W Q
weaker W P Q (done ws x) g h = g x h
weaker W P Q (restores r ws x) g h = g x h
weaker W P Q (fail e) g h = tt
weaker W P Q (look l f) g h = (h.0, λ v a. weaker W P Q (f v) g (h.1 v a))
weaker W P Q (ask c f) g h = (h.0, weaker W P Q (f _) g h.1)

pub seeks_any : {A : Type 0} {W : World} {P : A → Type 0} (t : Application A) → Seeks W P t → Seeks W Any t
seeks_any {W = W} {P = P} t h = record { looks = weaker W P Any t (λ x _. tt) h.looks }

pub bytes_seek : {W : World} {a : Interval} → HasBytes W.shapes a → Seeks W (AreBytes W a.len) (bytes_of a)
bytes_seek {W = W} {a = a} h = record { looks = bytes_look_lawfully W a h }

pub key_seeks : {W : World} {fm : KeyForm} → HasForm W.shapes fm → Seeks W (IsKeyOf W fm) (key_of fm)
key_seeks {W = W} {fm = fm} h = record { looks = key_look W fm h }

pub find_seeks : {W : World} (ds : List Cell) (j : Key) → AllByRecursion (IsDict W.shapes) ds → Seeks W (FitsObject W.shapes) (find ds j)
find_seeks {W = W} ds j h = record { looks = find_look W ds j h }

-- an operator goes on with what such a tree finds
pub seeking_keeps : {A : Type 0} {text : List ℕ} {most : ℕ} {below : List Frame} {s : State} {W : World} {k : A → Ask} (P : A → Type 0) (t : Application A)
    → Seeks W P t → ((x : A) → P x → Keeps text most below (k x) s W) → Keeps text most below (look_then t k) s W
seeking_keeps P t h g = then_keeps t P h.looks g

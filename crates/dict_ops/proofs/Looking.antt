-- What keeps a state that fits where a tree looks at keys, asks for a capacity or seeks a dictionary.
use Rattle.std.proofs.Common.{◌≡◌, ◌≢◌, ℕ, List, [], ◌∷◌, Option, Some, None, sym, ◌∙◌}
use Rattle.std.specs.Bool.{⊤}
use Rattle.std.specs.List.{AllByRecursion}
use Rattle.ps_objects.specs.declared.cell.Cell.{Cell}
use Rattle.ps_objects.specs.declared.key.Key.{Key}
use Rattle.ps_objects.specs.declared.object.Object.{Object}
use Rattle.ps_objects.specs.declared.place.Loc.TheVariants as loc
use Rattle.ps_objects.specs.declared.place.Shape.{Shape}
use Rattle.ps_objects.specs.declared.place.Shape.TheVariants as shape
use Rattle.ps_objects.specs.declared.place.Value.{Value}
use Rattle.ps_objects.specs.declared.place.Value.TheVariants as value
use Rattle.ps_kinds.specs.declared.frame.Frame.{Frame}
use Rattle.ps_kinds.specs.declared.state.State.{State}
use Rattle.ps_memory.specs.Memory.{standing_shape}
use Rattle.ps_memory.specs.Tree.{Application, ask}
use Rattle.ps_meaning.specs.Fits.{Shapes, FitsKey, IsDict}
use Rattle.ps_meaning.specs.Sound.{World, IsAnswer}
use Rattle.ps_operator.specs.Tree.{Ask}
use Rattle.ps_operator.specs.Looks.{keys_then, entry_then, look_keys, look_entry}
use Rattle.ps_operator.specs.Lawful.{HasDict, FitsOption, Lawfully, Keeps, Looks}
use Rattle.ps_operator.proofs.Seeking.{Seeks}
use Rattle.dict_ops.specs.Stack.{holder, holder_or}

pub keys_keeps : {text : List ℕ} {most : ℕ} {below : List Frame} {s : State} {W : World} {d : Cell} {k : List Key → Ask} → HasDict W.shapes d
    → ((ks : List Key) → AllByRecursion (FitsKey W.shapes) ks → Keeps text most below (k ks) s W) → Keeps text most below (look_keys d k) s W
keys_keeps {text = text} {most = most} {below = below} {s = s} {W = W} {d = d} {k = k} h g = record { lawful = (h.stands, go) }
  where
    go : (v : Value) → IsAnswer W (loc.Keys d) v → Lawfully text most below (keys_then k v) s W
    go (value.Keys ks) e = (g ks e).lawful
    go value.Absent e = absurd e
    go (value.Object x) e = absurd e
    go (value.Byte n) e = absurd e
    go (value.Access a) e = absurd e
    go (value.Rand n) e = absurd e
    go (value.Paper p) e = absurd e

apart : (sh : Shape) → Some sh ≡ None → ⊥
apart sh e = cc

dict_there : (K : Shapes) (d : Cell) → HasDict K d → K d ≢ None
dict_there K d h e = apart (shape.Dict h.stands.0) (sym h.stands.1 ∙ e)

pub ask_keeps : {text : List ℕ} {most : ℕ} {below : List Frame} {s : State} {W : World} {d : Cell} {k : Shape → Ask} → HasDict W.shapes d
    → ((sh : Shape) → Keeps text most below (k sh) s W) → Keeps text most below (ask d k) s W
ask_keeps {W = W} {d = d} h g = record { lawful = (dict_there W.shapes d h, (g (standing_shape (W.shapes d))).lawful) }

-- a look at an entry, where something is sought
pub entry_seeks : {A : Type 0} {W : World} {P : A → Type 0} {d : Cell} {j : Key} {k : Option Object → Application A} → HasDict W.shapes d
    → ((x : Option Object) → FitsOption W.shapes x → Seeks W P (k x)) → Seeks W P (look_entry d j k)
entry_seeks {W = W} {P = P} {d = d} {j = j} {k = k} h g = record { looks = (h.stands, go) }
  where
    go : (v : Value) → IsAnswer W (loc.Entry d j) v → Looks (entry_then k v) W P
    go (value.Object x) e = (g (Some x) e.1).looks
    go value.Absent e = (g None tt).looks
    go (value.Byte n) e = absurd e
    go (value.Access a) e = absurd e
    go (value.Keys ks) e = absurd e
    go (value.Rand n) e = absurd e
    go (value.Paper p) e = absurd e

-- the dictionary that has a key stands, if there is one
abbrev pub FitsHolder : Shapes → Option Cell → Type 0
FitsHolder K None = ⊤
FitsHolder K (Some d) = HasDict K d

holder_by : (W : World) (d : Cell) (rest : Application (Option Cell)) → HasDict W.shapes d → Seeks W (FitsHolder W.shapes) rest
    → (x : Option Object) → FitsOption W.shapes x → Seeks W (FitsHolder W.shapes) (holder_or d rest x)
holder_by W d rest h g (Some x) e = record { looks = h }
holder_by W d rest h g None e = g

pub holder_seeks : (W : World) (ds : List Cell) (j : Key) → AllByRecursion (IsDict W.shapes) ds → Seeks W (FitsHolder W.shapes) (holder ds j)
holder_seeks W [] j h = record { looks = tt }
holder_seeks W (d ∷ ds) j h =
    let here : HasDict W.shapes d = record { stands = h.0 } in
    entry_seeks here (holder_by W d (holder ds j) here (holder_seeks W ds j h.1))

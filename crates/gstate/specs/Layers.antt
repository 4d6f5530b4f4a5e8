-- The graphics stack (section 4.2 of the language manual).
use Rattle.std.specs.Prelude.{false, cond, ◌&&◌, nat_eq, if◌then◌else◌, List, [], ◌∷◌}
use Rattle.ps_kinds.specs.declared.graphics.GState.{GState}
use Rattle.ps_kinds.specs.declared.graphics.Layer.{Layer}
use Rattle.ps_kinds.specs.declared.regs.Regs.{Regs}
use Rattle.ps_kinds.specs.declared.state.State.{State}
use Rattle.ps_memory.specs.Tree.{Change, done, wipes}
use Rattle.ps_operator.specs.Budgets.{layer_room}
use Rattle.ps_operator.specs.Tree.{Ask, read}
use Rattle.ps_operator.specs.Registers.{quiet}

-- ---- a layer more

-- the graphics state lies on the graphics stack, in a layer that is no base
abbrev pub pushed : Regs → Regs
pushed R = record R { states = record { state = R.state; base = false } ∷ R.states }

-- gsave: limitcheck
abbrev pub gsave : State → Ask
gsave s =
    read (layer_room s.regs.states) (λ _.
    done [] (quiet (record s { regs = pushed s.regs })))

-- ---- back to a layer

-- blank paper where the page's size changes; no operator's proof opens this
unfoldable pub size_changes : GState → GState → List Change
size_changes new old =
    if nat_eq new.wide old.wide && nat_eq new.high old.high
    then [] else wipes new.wide new.high ∷ []

-- the layers that stay where the first one's state is taken: a base layer stays, too
abbrev pub left_of : Layer → List Layer → List Layer
left_of l ls = cond l.base (l ∷ ls) ls

-- the newest layer's graphics state, where there is a layer, and the layers that stay; no operator's proof opens this
unfoldable pub taken_back : GState → List Layer → GState × List Layer
taken_back g [] = (g, [])
taken_back g (l ∷ ls) = (l.state, left_of l ls)

-- registers that are taken back to the newest of these layers
abbrev pub back : Regs → List Layer → Regs
back R ls = record R { state = (taken_back R.state ls).0; states = (taken_back R.state ls).1 }

-- goes back to the newest of these layers
abbrev pub goes_back : State → List Layer → Ask
goes_back s ls =
    done (size_changes (taken_back s.regs.state ls).0 s.regs.state)
    (quiet (record s { regs = back s.regs ls }))

-- grestore
abbrev pub grestore : State → Ask
grestore s = goes_back s s.regs.states

-- without the layers above the newest base; where there is none the oldest layer stays
abbrev pub lowest : List Layer → List Layer
lowest [] = []
lowest (l ∷ []) = l ∷ []
lowest (l ∷ k ∷ ls) = cond l.base (l ∷ k ∷ ls) (lowest (k ∷ ls))

-- grestoreall
abbrev pub grestoreall : State → Ask
grestoreall s = goes_back s (lowest s.regs.states)

-- Pages are wiped and given out (section 8.2 of the language manual).
use Rattle.std.specs.Prelude.{◌+◌, Bool, true, false, [], ◌∷◌}
use Rattle.ps_kinds.specs.declared.act.Act.TheVariants as act
use Rattle.ps_kinds.specs.declared.state.State.{State}
use Rattle.ps_memory.specs.Tree.{done, wipes}
use Rattle.ps_meaning.specs.Answer.{Effect}
use Rattle.ps_operator.specs.Budgets.{show_room}
use Rattle.ps_operator.specs.Registers.{quiet}
use Rattle.ps_operator.specs.Tree.{Ask, read}
use Rattle.gstate.specs.Beginning.{begun}

-- erasepage: blank paper of the page's size is stored, without a look
abbrev pub erasepage : State → Ask
erasepage s = done (wipes s.regs.state.wide s.regs.state.high ∷ []) (quiet s)

-- one page more was given out
abbrev pub one_shown : State → State
one_shown s = record s { shows = s.shows + 1 }

-- the page is to be given out, and then wiped or kept
abbrev pub gives_out : Bool → State → Effect
gives_out wipe s = record { state = one_shown s; frames = []; act = act.Show wipe }

-- with the graphics state that `initgraphics` leaves
abbrev pub with_new_graphics : State → State
with_new_graphics s =
    record s { regs = record s.regs { state = begun s.settings.dpi s.regs.state } }

-- showpage: limitcheck
abbrev pub showpage : State → Ask
showpage s =
    read (show_room s.kind s.shows) (λ _.
    done [] (gives_out true (with_new_graphics s)))

-- copypage: limitcheck
abbrev pub copypage : State → Ask
copypage s =
    read (show_room s.kind s.shows) (λ _.
    done [] (gives_out false s))

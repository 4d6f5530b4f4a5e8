-- Screens and transfer functions, which are kept and told and have no other effect (section 6.3 and 6.4 of the language manual).
use Rattle.std.specs.Prelude.{◌∷◌}
use Rattle.ps_objects.specs.Operands.{needed, room_for, object_at, procedure_at}
use Rattle.ps_kinds.specs.declared.state.State.{State}
use Rattle.ps_operator.specs.Tree.{Ask, read}
use Rattle.ps_operator.specs.Registers.{ops, leaves}
use Rattle.real_operands.specs.Reals.{real_at}
use Rattle.colour_ops.specs.Glyphs.{settable}
use Rattle.colour_ops.specs.Setting.{real, sets}

-- n n p setscreen: the frequency, the angle and the spot function
abbrev pub setscreen : State → Ask
setscreen s =
    read (needed 3 (ops s)) (λ _.
    read (procedure_at 0 (ops s)) (λ _.
    read (real_at 1 (ops s)) (λ angle.
    read (real_at 2 (ops s)) (λ frequency.
    read (settable s.frames) (λ _.
    read (object_at 0 (ops s)) (λ spot.
    sets s 3 (record s.regs.state { frequency = frequency; angle = angle; spot = spot })))))))

-- currentscreen n n x
abbrev pub currentscreen : State → Ask
currentscreen s =
    read (room_for 3 (ops s)) (λ _.
    leaves s
    (s.regs.state.spot ∷ real s.regs.state.angle ∷ real s.regs.state.frequency ∷ ops s))

-- p settransfer
abbrev pub settransfer : State → Ask
settransfer s =
    read (needed 1 (ops s)) (λ _.
    read (procedure_at 0 (ops s)) (λ _.
    read (object_at 0 (ops s)) (λ transfer.
    sets s 1 (record s.regs.state { transfer = transfer }))))

-- currenttransfer x
abbrev pub currenttransfer : State → Ask
currenttransfer s =
    read (room_for 1 (ops s)) (λ _.
    leaves s (s.regs.state.transfer ∷ ops s))

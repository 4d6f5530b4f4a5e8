-- A desk after a call that may come to nothing.
use Rattle.std.specs.Prelude.{Bool, List, if◌then◌else◌}
use Rattle.commit_desk.specs.declared.event.Event.{Event}
use Rattle.commit_desk.specs.State.{DeskState, after}

-- the desk after these events, where they came
abbrev pub after_if : Bool → DeskState → List Event → DeskState
after_if came desk events = if came then after desk events else desk

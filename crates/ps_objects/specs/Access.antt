-- What an access lets a program do.
use Rattle.std.specs.Prelude.{Result, Ok, Err}
use Rattle.ps_objects.specs.declared.access.Access.{Access}
use Rattle.ps_objects.specs.declared.access.Access.TheVariants.{Unlimited, ReadOnly, ExecuteOnly, NoAccess}
use Rattle.ps_names.specs.declared.error_name.ErrorName.{ErrorName}
use Rattle.ps_names.specs.declared.error_name.ErrorName.TheVariants.{InvalidAccess}

-- whether an object with this access may be read
abbrev pub read_right : Access → Result (Unit {0}) ErrorName
read_right Unlimited = Ok tt
read_right ReadOnly = Ok tt
read_right ExecuteOnly = Err InvalidAccess
read_right NoAccess = Err InvalidAccess

-- whether it may be written
abbrev pub write_right : Access → Result (Unit {0}) ErrorName
write_right Unlimited = Ok tt
write_right ReadOnly = Err InvalidAccess
write_right ExecuteOnly = Err InvalidAccess
write_right NoAccess = Err InvalidAccess

-- whether a procedure or an executable string with this access may be run
abbrev pub run_right : Access → Result (Unit {0}) ErrorName
run_right Unlimited = Ok tt
run_right ReadOnly = Ok tt
run_right ExecuteOnly = Ok tt
run_right NoAccess = Err InvalidAccess

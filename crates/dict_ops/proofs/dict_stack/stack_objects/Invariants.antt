use Rattle.std.proofs.Common.{◌≡◌, ◌++◌, drop, map}
use Rattle.ps_objects.specs.declared.object.Kind.TheVariants as kind
use Rattle.ps_operator.specs.Registers.{literal}
use Rattle.dict_ops.proofs.dict_stack.stack_objects.Given as goal

-- with those left, the objects are those of the whole stack
abbrev pub invariant-loop-depth : goal.invariant-loop-depth
invariant-loop-depth l =
    l.objects.items ++ map (λ d. literal (kind.Dict d)) (drop l.depth l.dicts) ≡ map (λ d. literal (kind.Dict d)) l.dicts

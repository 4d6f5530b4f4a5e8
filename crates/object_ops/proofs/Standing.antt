-- The dictionary in whose cell an operand's access lies stands.
use Rattle.std.proofs.Common.{◌≡◌, ℕ, true, Some, Ok, subst}
use Rattle.ps_objects.specs.declared.cell.Cell.{Cell}
use Rattle.ps_objects.specs.declared.object.Kind.{Kind}
use Rattle.ps_objects.specs.declared.object.Kind.TheVariants as kind
use Rattle.ps_objects.specs.declared.object.Object.{Object}
use Rattle.ps_objects.specs.Operands.{object_at}
use Rattle.ps_kinds.specs.declared.state.State.{State}
use Rattle.ps_memory.specs.Memory.{Memory}
use Rattle.ps_meaning.specs.Ready.{Ready}
use Rattle.ps_operator.specs.Standing.{is_dict, is_named}
use Rattle.ps_operator.proofs.Standing.{object_stands}
use Rattle.object_ops.specs.Accesses.{access_holder}

holder_is : (M : Memory) (k : Kind) (d : Cell) → is_named M k ≡ true → access_holder k ≡ Ok (Some d) → is_dict M d ≡ true
holder_is M (kind.Dict c) d h e = let p : c ≡ d = cc in subst (λ c. is_dict M c ≡ true) p h
holder_is M _ d h e = cc

module _ (s : State) (M : Memory) (r : Ready s M) where
  pub holder_stands : (i : ℕ) (x : Object) (d : Cell) → object_at i s.regs.operands ≡ Ok x → access_holder x.kind ≡ Ok (Some d) → is_dict M d ≡ true
  holder_stands i x d e g = holder_is M x.kind d (object_stands s M r i x e) g

use Rattle.std.proofs.Common.{◌≡◌, false}
use Rattle.commit_places.specs.declared.view.Next.TheVariants.{Waiting}
use Rattle.commit_places.proofs.tests.commit_all.Given as goal

abbrev pub invariant-loop-count : goal.invariant-loop-count
invariant-loop-count g l =
    (l.committer.places ≡ l.places) × (l.pages ≡ l.places.sizes.pages) × (l.committer.count ≡ l.count) × (l.committer.next ≡ Waiting) × (l.committer.is_stopped ≡ false)

use Rattle.std.proofs.Common.{◌<◌, set, subst, ap, ◌∙◌}
use Rattle.dense_dict.specs.Index.{bucket}
use Rattle.dense_dict.proofs.Growth.{added}
use Rattle.dense_dict.proofs.hash_index.HashIndex.add.Goals as goal

pub returns-clause-linked : goal.returns-clause-linked
returns-clause-linked c =
    added c.args.self.now.heads.items _ c.args.self.now.links.items c.push.new.self.items (record { hash = c.args.hash; next = c.head-next.result }) c.bucket-at.result c.requires.linked c.requires.some
    (subst (λ n. c.bucket-at.result < n) c.buckets.ensures c.bucket-at.ensures.within) (c.bucket-at.ensures.bucket ∙ ap (λ n. bucket n c.args.hash) c.buckets.ensures) c.head-next.ensures c.in_ok-push.ensures.items
    (ap (set c.args.self.now.heads.items c.bucket-at.result) c.places-places.ensures)

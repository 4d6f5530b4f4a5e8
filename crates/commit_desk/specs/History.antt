-- The history of a desk, and which histories are legal.
use Rattle.std.specs.Prelude.{ℕ, ◌+◌, List, [], ◌∷◌, ◌++◌, Bool, true, false, not, ◌&&◌, ◌==◌, nat_lt, nat_le, count_by, fold}
use Rattle.std.specs.List.{list_any}
use Rattle.commit_desk.specs.declared.event.Event.{Event}
use Rattle.commit_desk.specs.declared.event.Event.TheVariants.{Claimed, Finished, Taken, Committed}

-- whether two events are the same
abbrev pub is_same : Event → Event → Bool
is_same (Claimed p) (Claimed q) = p == q
is_same (Finished p) (Finished q) = p == q
is_same (Taken p) (Taken q) = p == q
is_same (Committed p) (Committed q) = p == q
is_same _ _ = false

-- whether the event stands in the history
abbrev pub has : List Event → Event → Bool
has history event = list_any (is_same event) history

-- whether an event claims a page
abbrev pub is_claim : Event → Bool
is_claim (Claimed page) = true
is_claim _ = false

-- how many pages were claimed
abbrev pub claimed_count : List Event → ℕ
claimed_count history = count_by is_claim history

-- the committed count after an event
abbrev pub committed_by : ℕ → Event → ℕ
committed_by count (Committed risen) = risen
committed_by count _ = count

-- how many pages are committed: as many as the last rise says, and none before the first
abbrev pub committed_count : List Event → ℕ
committed_count history = fold committed_by 0 history

-- whether the event may come next. Pages are claimed as 1, 2, 3 and so on, each at most `ahead` past the committed ones;
-- a page is finished after it was claimed, and once; it is taken after it was finished, and once;
-- the committed count rises, and to at most the pages claimed
abbrev pub may_follow : ℕ → List Event → Event → Bool
may_follow ahead before (Claimed page) = (page == claimed_count before + 1) && nat_le page (committed_count before + ahead)
may_follow ahead before (Finished page) = has before (Claimed page) && not (has before (Finished page))
may_follow ahead before (Taken page) = has before (Finished page) && not (has before (Taken page))
may_follow ahead before (Committed count) = nat_lt (committed_count before) count && nat_le count (claimed_count before)

-- each of the later events may follow on those before it
abbrev pub may_all_follow : ℕ → List Event → List Event → Bool
may_all_follow ahead before [] = true
may_all_follow ahead before (event ∷ later) = may_follow ahead before event && may_all_follow ahead (before ++ event ∷ []) later

-- whether each event may follow those before it
abbrev pub is_legal : ℕ → List Event → Bool
is_legal ahead history = may_all_follow ahead [] history

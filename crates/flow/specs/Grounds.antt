-- What a link is said to be, from the passages between domains and the marks of the live ones.
use Rattle.std.specs.Prelude.{◌≡◌, ◌+◌, true, false, ◌&&◌, slice_index_or}
use Rattle.machine.specs.Flow.{Node, obj, dom}
use Rattle.machine.specs.Policy.{reading}
use Rattle.policy.specs.Abstract.{asked}
use Rattle.flow.specs.declared.linking.Linking.{Linking}
use Rattle.flow.specs.Allows.{allowed, changed}
use Rattle.flow.specs.Rows.{linked}

-- a live domain learns of an object that it may read, alters one that it may change, and passes where a passage leads
abbrev pub Linked : Linking → Node → Node → Type 0
Linked s (obj o) (obj i) = ⊥
Linked s (obj o) (dom d) = (slice_index_or s.live d false && allowed (asked s.policy.now.policy) reading d o) ≡ true
Linked s (dom d) (obj o) = (slice_index_or s.live d false && changed (asked s.policy.now.policy) d o) ≡ true
Linked s (dom d) (dom e) = (slice_index_or s.live d false && linked s.passages (128 + d) (128 + e)) ≡ true

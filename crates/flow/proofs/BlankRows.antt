-- Rows that lead to domains, or nowhere.
use Rattle.std.proofs.Common.{◌≡◌, ◌+◌, Bool, false, List, ◌++◌, length, get_or, replicate, sym, ap, ◌∙◌, subst, arith}
use Rattle.std.proofs.lemmas.Bool.{true≢false, and_parts}
use Rattle.std.proofs.lemmas.List.{get_or_append_left, get_or-append-add}
use Rattle.label.specs.declared.numbers.Dom.{Dom}
use Rattle.label.specs.declared.numbers.Obj.{Obj}
use Rattle.machine.specs.Flow.{obj, dom, number}
use Rattle.machine.specs.Policy.{Policy as Asked}
use Rattle.flow.specs.declared.linking.Linking.{Linking}
use Rattle.flow.specs.declared.node.Node.{Node as Declared}
use Rattle.flow.specs.declared.node.Node.TheVariants.{Object, Domain}
use Rattle.flow.specs.Grounds.{Linked}
use Rattle.flow.specs.Nodes.{meant}
use Rattle.flow.specs.Passages.{Passage}
use Rattle.flow.specs.Tables.{LeadsTo, RowOf}
use Rattle.flow.proofs.Marks.{blank}

-- no passage begins at an object
pub object_row : (P : Asked) (from : Declared) (o : Obj) → from ≡ Object o → RowOf (Passage P (meant from)) (replicate 160 false)
object_row P from o e = subst (λ n. RowOf (Passage P (meant n)) (replicate 160 false)) (sym e) (λ y l. (λ h. absurd (true≢false (sym h ∙ blank 160 (number y))), λ q. absurd q))

dead : (s : Linking) (d : Dom) → get_or s.live d.0 false ≡ false → RowOf (Linked s (dom d.0)) (replicate 160 false)
dead s d h (obj o) l = (λ q. absurd (true≢false (sym q ∙ blank 160 o)), λ q. absurd (true≢false (sym (and_parts (get_or s.live d.0 false) _ q).0 ∙ h)))
dead s d h (dom e) l = (λ q. absurd (true≢false (sym q ∙ blank 160 (128 + e))), λ q. absurd (true≢false (sym (and_parts (get_or s.live d.0 false) _ q).0 ∙ h)))

-- a domain that is not live is linked to nothing
pub dead_row : (s : Linking) (from : Declared) (d : Dom) → from ≡ Domain d → get_or s.live d.0 false ≡ false → RowOf (Linked s (meant from)) (replicate 160 false)
dead_row s from d e h = subst (λ n. RowOf (Linked s (meant n)) (replicate 160 false)) (sym e) (dead s d h)

-- marks behind a blank row of objects
pub marks_led : (marks behind rest : List Bool) → behind ≡ marks → length behind ≡ 32 → LeadsTo marks (replicate 128 false ++ behind ++ rest)
marks_led marks behind rest e n = record {
  domains = λ d l. get_or-append-add (replicate 128 false) (behind ++ rest) d false ∙ get_or_append_left behind rest false d (omega (arith, n, l)) ∙ ap (λ xs. get_or xs d false) e;
  objects = λ o l. get_or_append_left (replicate 128 false) (behind ++ rest) false o l ∙ blank 128 o;
}

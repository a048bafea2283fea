-- What an outcome of reading says of the text.
use Rattle.std.proofs.Common.{◌≡◌, ℕ, ◌<◌, ◌≤◌, List, [], ◌∷◌, ◌++◌, length, Ok, Err, sym, refl, ap, ◌∙◌, subst, arith}
use Rattle.std.proofs.ByRecursion.{All-weaker, All-push}
use Rattle.std.proofs.lemmas.List.{append-nil}
use Rattle.std.specs.List.{AllByRecursion}
use Rattle.scan.specs.declared.token.Mark.TheVariants as mark
use Rattle.scan.specs.Lex.{tokens_of}
use Rattle.scan.specs.Lineation.{front}
use Rattle.scan.specs.Order.{TokensAreInOrder}
use Rattle.scan.specs.Tokens.{Piece, Said, offset}
use Rattle.scan.specs.Tokens.Piece.{at}
use Rattle.scan.specs.Tokens.Said.{sign}
use Rattle.reader.specs.Composed.{Composed}
use Rattle.reader.specs.Reading.{Outcome, reading, read}
use Rattle.reader.specs.Reading.Outcome.{tables, fault}
use Rattle.reader.specs.Statements.{Next, Fit, fit, meet, then, or_refuse, misfit, on_token}
use Rattle.reader.specs.Statements.Fit.{none, line_end, opening, closing}
use Rattle.reader.specs.declared.position.Position.{Position}
use Rattle.reader.specs.declared.position.Position.TheVariants.{Start}
use Rattle.reader.specs.declared.reason.Reason.{Reason}
use Rattle.reading_laws.specs.Exact.{Taken, FirstRefused, Exact, ReadingIsExact}
use Rattle.reader.proofs.Taking.{reading_ends}
use Rattle.reading_laws.proofs.Steps.{reading_by, reading-cons}

-- ── Tokens that are taken ──

-- behind them reading goes on where they led
pub taken_goes_on : (c : Composed) (p : Position) (ts us : List Piece) (d : Composed) (q : Position) → Taken c p ts d q → reading c p (ts ++ us) ≡ reading d q us
taken_goes_on c p [] us d q t = ap (λ x. reading x p us) t.0 ∙ ap (λ x. reading d x us) t.1
taken_goes_on c p (at place s ∷ ts) us d q (next, e, t) =
    reading-cons c p place s (ts ++ us)
    ∙ ap (λ x. reading_by x place (ts ++ us)) e
    ∙ taken_goes_on next.0 next.1 ts us d q t

-- what leads to a token's end led to the token
pub taken_before : (c : Composed) (p : Position) (ts : List Piece) (place : ℕ) (s : Said) (d : Composed) (q : Position) → Taken c p (ts ++ at place s ∷ []) d q → (m : Composed × Position) × Taken c p ts m.0 m.1 × (on_token m.0 m.1 s ≡ Ok (d, q))
taken_before c p [] place s d q (next, e, ends) = ((c, p), (refl, refl), e ∙ (λ i. Ok (ends.0 i, ends.1 i)))
taken_before c p (at o said ∷ ts) place s d q (next, e, t) =
    let rest = taken_before next.0 next.1 ts place s d q t in
    (rest.0, (next, e, rest.1), rest.2)

-- ── The text's end ──

-- where the text's end is taken, a line feed is taken too, and both begin a new line with the same tables
pub record EndsLine (c : Composed) (p : Position) (d : Composed) (q : Position) : Type 0 where
  pub same : c ≡ d
  pub whole : q ≡ Start
  pub feeds : on_token c p (sign mark.End) ≡ Ok (c, Start)

abbrev ended : Composed → Fit → Next
ended c f = then (or_refuse (misfit mark.Last) (meet f mark.Last)) (λ next. Ok (c, next))

abbrev fed : Composed → Fit → Next
fed c f = then (or_refuse (misfit mark.End) (meet f mark.End)) (λ next. Ok (c, next))

pub refused_is_not_taken : {x : Composed × Position} {e : Reason} → ◌≡◌ {A = Next} (Err e) (Ok x) → ⊥
refused_is_not_taken h = let z : ◌≡◌ {A = ℕ} 0 1 = cc in omega arith

taken_is : {c d : Composed} {p q : Position} → ◌≡◌ {A = Next} (Ok (c, p)) (Ok (d, q)) → (c ≡ d) × (p ≡ q)
taken_is {c} {d} {p} {q} h = let same : ◌≡◌ {A = Composed × Position} (c, p) (d, q) = cc in (ap (λ x. x.0) same, ap (λ x. x.1) same)

by_fit : (f : Fit) (c d : Composed) (q : Position) → ended c f ≡ Ok (d, q) → (c ≡ d) × (q ≡ Start) × (fed c f ≡ Ok (c, Start))
by_fit none c d q h = absurd (refused_is_not_taken h)
by_fit line_end c d q h = let same = taken_is h in (same.0, sym same.1, refl)
by_fit (opening next) c d q h = absurd (refused_is_not_taken h)
by_fit (closing next) c d q h = absurd (refused_is_not_taken h)

pub end_ends_line : (c : Composed) (p : Position) (d : Composed) (q : Position) → on_token c p (sign mark.Last) ≡ Ok (d, q) → EndsLine c p d q
end_ends_line c p d q h = let is = by_fit (fit p) c d q h in record { same = is.0; whole = is.1; feeds = is.2 }

-- ── Outcomes ──

-- what an outcome says of the tokens
abbrev Says : Composed → Position → List Piece → Outcome → Type 0
Says c p ts (tables d) = (q : Position) × Taken c p ts d q
Says c p ts (fault e place) = FirstRefused c p ts e place

says_more : (o : Outcome) (c : Composed) (p : Position) (place : ℕ) (s : Said) (ts : List Piece) (next : Composed × Position) → on_token c p s ≡ Ok next → Says next.0 next.1 ts o → Says c p (at place s ∷ ts) o
says_more (tables d) c p place s ts next e (q, t) = (q, (next, e, t))
says_more (fault why o) c p place s ts next e f =
    record {
      before = at place s ∷ f.before;
      said = f.said;
      behind = f.behind;
      stands = ap (λ l. at place s ∷ l) f.stands;
      composed = f.composed;
      position = f.position;
      taken = (next, e, f.taken);
      refused = f.refused;
    }

says : (c : Composed) (p : Position) (ts : List Piece) → Says c p ts (reading c p ts)
says c p [] = subst (Says c p []) (sym (reading_ends c p)) (p, (refl, refl))
says c p (at place s ∷ ts) =
    subst (Says c p (at place s ∷ ts)) (sym (reading-cons c p place s ts))
    ((elim (on_token c p s) as (λ x. on_token c p s ≡ x → Says c p (at place s ∷ ts) (reading_by x place ts)) [
      | Ok next ↦ λ e. says_more (reading next.0 next.1 ts) c p place s ts next e (says next.0 next.1 ts)
      | Err why ↦ λ e. record { before = []; said = s; behind = ts; stands = refl; composed = c; position = p; taken = (refl, refl); refused = e }
    ]) refl)

-- ── Texts ──

-- a text whose tokens are taken ends a line, and could go on
pub record Whole (c : Composed) (text : List ℕ) (d : Composed) : Type 0 where
  pub before : Position
  pub taken : Taken c Start (front (tokens_of text)) d before
  pub feeds : on_token d before (sign mark.End) ≡ Ok (d, Start)

module _ (order : TokensAreInOrder) (c : Composed) (text : List ℕ) where
  ends_line : (d : Composed) (q : Position) → Taken c Start (tokens_of text) d q → (q ≡ Start) × Whole c text d
  ends_line d q t =
      let last = taken_before c Start (front (tokens_of text)) (length text) (sign mark.Last) d q (subst (λ ts. Taken c Start ts d q) (order text).ends t) in
      let line = end_ends_line last.0.0 last.0.1 d q last.2 in (
        line.whole,
        record {
          before = last.0.1;
          taken = subst (λ x. Taken c Start (front (tokens_of text)) x last.0.1) line.same last.1;
          feeds = subst (λ x. on_token x last.0.1 (sign mark.End) ≡ Ok (x, Start)) line.same line.feeds;
        },
      )

  pub read_is_whole : (d : Composed) → read c text ≡ tables d → Whole c text d
  read_is_whole d h = let t = subst (Says c Start (tokens_of text)) h (says c Start (tokens_of text)) in (ends_line d t.0 t.1).1

  within_text : AllByRecursion (λ t. offset t ≤ length text) (tokens_of text)
  within_text =
      let inner = All-weaker (λ t. offset t < length text) (λ t. offset t ≤ length text) (λ t h. omega arith) (front (tokens_of text)) (order text).within in
      subst (AllByRecursion (λ t. offset t ≤ length text)) (sym (order text).ends) (All-push (λ t. offset t ≤ length text) (front (tokens_of text)) (at (length text) (sign mark.Last)) inner (omega arith))

  at_one : (ts us : List Piece) (t : Piece) → AllByRecursion (λ x. offset x ≤ length text) (ts ++ t ∷ us) → offset t ≤ length text
  at_one [] us t all = all.0
  at_one (x ∷ ts) us t all = at_one ts us t all.1

  said_exactly : (o : Outcome) → Says c Start (tokens_of text) o → Exact c text o
  said_exactly (tables d) (q, t) = subst (λ x. Taken c Start (tokens_of text) d x) (ends_line d q t).0 t
  said_exactly (fault e place) f = (at_one f.before f.behind (at place f.said) (subst (AllByRecursion (λ t. offset t ≤ length text)) f.stands within_text), f)

  exactly_read : (o : Outcome) → Exact c text o → read c text ≡ o
  exactly_read (tables d) t = ap (reading c Start) (sym (append-nil (tokens_of text))) ∙ taken_goes_on c Start (tokens_of text) [] d Start t ∙ reading_ends d Start
  exactly_read (fault e place) (le, f) =
      ap (reading c Start) f.stands
      ∙ taken_goes_on c Start f.before (at place f.said ∷ f.behind) f.composed f.position f.taken
      ∙ reading-cons f.composed f.position place f.said f.behind
      ∙ ap (λ x. reading_by x place f.behind) f.refused

pub reading_is_exact : TokensAreInOrder → ReadingIsExact
reading_is_exact order c text o = (λ h. said_exactly order c text o (subst (Says c Start (tokens_of text)) h (says c Start (tokens_of text))), exactly_read order c text o)

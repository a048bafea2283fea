-- The laws of the answers.
use Rattle.std.proofs.Common.{◌≡◌, ℕ, ◌<◌, ◌≤◌, Bool, true, false, cond, eqb, ltb, leb, length, Some, None, Ok, Err, Result, sym, refl, arith}
use Rattle.std.proofs.lemmas.Bool.{cond_both, ltb-true, ltb-false, leb-true, leb-false}
use Rattle.std.specs.Map.{update}
use Rattle.std.proofs.lemmas.Map.{update_here, update_apart}
use Rattle.std.specs.Option.{option_map}
use Rattle.store.specs.declared.StoreRefusal.{StoreRefusal}
use Rattle.store.specs.declared.StoreRefusal.TheVariants.{NoPlace, TooLong, SmallBuffer}
use Rattle.store.specs.Meaning.{Contents}
use Rattle.store.specs.Answers.{laid}
use Rattle.store.specs.Number.{number}
use Rattle.store.specs.Laws.{GetFault, PutFault, ClearFault, Lowest, LowestRefuses, RefusalChangesNothing, OnePlaceChanges}

no_place_is_lowest : (f : StoreRefusal) → 22 ≤ number f
no_place_is_lowest NoPlace = omega arith
no_place_is_lowest TooLong = omega arith
no_place_is_lowest SmallBuffer = omega arith

no_get_fault : (n p room : ℕ) → p < n → 64 ≤ room → (f : StoreRefusal) → GetFault n p room f → ⊥
no_get_fault n p room lt le NoPlace h = omega arith
no_get_fault n p room lt le TooLong h = h
no_get_fault n p room lt le SmallBuffer h = omega arith

small_is_lowest : (n p room : ℕ) → p < n → (f : StoreRefusal) → GetFault n p room f → 26 ≤ number f
small_is_lowest n p room lt NoPlace h = absurd (omega arith)
small_is_lowest n p room lt TooLong h = absurd h
small_is_lowest n p room lt SmallBuffer h = omega arith

no_put_fault : (n p len : ℕ) → p < n → len ≤ 64 → (f : StoreRefusal) → PutFault n p len f → ⊥
no_put_fault n p len lt le NoPlace h = omega arith
no_put_fault n p len lt le TooLong h = omega arith
no_put_fault n p len lt le SmallBuffer h = h

long_is_lowest : (n p len : ℕ) → p < n → (f : StoreRefusal) → PutFault n p len f → 23 ≤ number f
long_is_lowest n p len lt NoPlace h = absurd (omega arith)
long_is_lowest n p len lt TooLong h = omega arith
long_is_lowest n p len lt SmallBuffer h = absurd h

no_clear_fault : (n p : ℕ) → p < n → (f : StoreRefusal) → ClearFault n p f → ⊥
no_clear_fault n p lt NoPlace h = omega arith
no_clear_fault n p lt TooLong h = h
no_clear_fault n p lt SmallBuffer h = h

pub lowest_refuses : LowestRefuses
lowest_refuses = record {
  get = λ n v p room.
      cond_both (ltb p n) _ _ (Lowest (GetFault n p room))
      (λ t. cond_both (leb 64 room) _ _ (Lowest (GetFault n p room))
      (λ u. no_get_fault n p room (ltb-true p n t) (leb-true 64 room u))
      (λ u. (leb-false 64 room u, small_is_lowest n p room (ltb-true p n t))))
      (λ t. (ltb-false p n t, λ f _. no_place_is_lowest f));
  put = λ n p len.
      cond_both (ltb p n) _ _ (Lowest (PutFault n p len))
      (λ t. cond_both (leb len 64) _ _ (Lowest (PutFault n p len))
      (λ u. no_put_fault n p len (ltb-true p n t) (leb-true len 64 u))
      (λ u. (leb-false len 64 u, long_is_lowest n p len (ltb-true p n t))))
      (λ t. (ltb-false p n t, λ f _. no_place_is_lowest f));
  clear = λ n p.
      cond_both (ltb p n) _ _ (Lowest (ClearFault n p))
      (λ t. no_clear_fault n p (ltb-true p n t))
      (λ t. (ltb-false p n t, λ f _. no_place_is_lowest f));
}

ok_is_no_refusal : {A : Type 0} (x : A) (e : StoreRefusal) → ◌≡◌ {A = Result A StoreRefusal} (Ok x) (Err e) → ⊥
ok_is_no_refusal x e h = let z : ◌≡◌ {A = ℕ} 0 1 = cc in omega arith

-- What follows from a test's two results follows from the test.
by_test : (b : Bool) → (P : Bool → Type 0) → P true → P false → P b
by_test true P t f = t
by_test false P t f = f

pub refusal_changes_nothing : RefusalChangesNothing
refusal_changes_nothing = record {
  get = λ n v p buffer e.
      by_test (ltb p n) (λ b. cond b (cond (leb 64 (length buffer)) (Ok (option_map length (v p))) (Err SmallBuffer)) (Err NoPlace) ≡ Err e → cond b (cond (leb 64 (length buffer)) (laid (v p) buffer) buffer) buffer ≡ buffer)
      (by_test (leb 64 (length buffer)) (λ b. cond b (Ok (option_map length (v p))) (Err SmallBuffer) ≡ Err e → cond b (laid (v p) buffer) buffer ≡ buffer)
      (λ h. absurd (ok_is_no_refusal _ _ h))
      (λ _. refl))
      (λ _. refl);
  put = λ n v p bytes e.
      by_test (ltb p n) (λ b. cond b (cond (leb (length bytes) 64) (Ok tt) (Err TooLong)) (Err NoPlace) ≡ Err e → cond b (cond (leb (length bytes) 64) (update eqb v p (Some bytes)) v) v ≡ v)
      (by_test (leb (length bytes) 64) (λ b. cond b (Ok tt) (Err TooLong) ≡ Err e → cond b (update eqb v p (Some bytes)) v ≡ v)
      (λ h. absurd (ok_is_no_refusal _ _ h))
      (λ _. refl))
      (λ _. refl);
  clear = λ n v p e.
      by_test (ltb p n) (λ b. cond b (Ok tt) (Err NoPlace) ≡ Err e → cond b (update eqb v p None) v ≡ v)
      (λ h. absurd (ok_is_no_refusal _ _ h))
      (λ _. refl);
}

pub one_place_changes : OnePlaceChanges
one_place_changes = record {
  put = λ n v p bytes.
      by_test (ltb p n) (λ b. cond b (cond (leb (length bytes) 64) (Ok tt) (Err TooLong)) (Err NoPlace) ≡ Ok tt → cond b (cond (leb (length bytes) 64) (update eqb v p (Some bytes)) v) v p ≡ Some bytes)
      (by_test (leb (length bytes) 64) (λ b. cond b (Ok tt) (Err TooLong) ≡ Ok tt → cond b (update eqb v p (Some bytes)) v p ≡ Some bytes)
      (λ _. update_here v p (Some bytes))
      (λ h. absurd (ok_is_no_refusal _ _ (sym h))))
      (λ h. absurd (ok_is_no_refusal _ _ (sym h)));
  put_others = λ n v p bytes k ne.
      cond_both (ltb p n) _ _ (λ (w : Contents). w k ≡ v k) (λ _. cond_both (leb (length bytes) 64) _ _ (λ (w : Contents). w k ≡ v k) (λ _. update_apart v p (Some bytes) k ne) (λ _. refl)) (λ _. refl);
  clear = λ n v p.
      by_test (ltb p n) (λ b. cond b (Ok tt) (Err NoPlace) ≡ Ok tt → cond b (update eqb v p None) v p ≡ None)
      (λ _. update_here v p None)
      (λ h. absurd (ok_is_no_refusal _ _ (sym h)));
  clear_others = λ n v p k ne. cond_both (ltb p n) _ _ (λ (w : Contents). w k ≡ v k) (λ _. update_apart v p None k ne) (λ _. refl);
}

-- The machine is told what the tables say.
use Rattle.std.proofs.Common.{◌≡◌, true, is_some, Some, None, Option, sym, refl}
use Rattle.std.proofs.lemmas.Bool.{true≢false}
use Rattle.label.specs.declared.numbers.Dom.{Dom}
use Rattle.policy.specs.Abstract.{asked, asked_of, first_number}
use Rattle.policy.specs.Asks.{Asks}
use Rattle.policy.specs.Holds.{model_of}

first_is_there : (f : Option Dom) → is_some f ≡ true → Some (record { 0 = first_number f }) ≡ f
first_is_there None e = absurd (true≢false (sym e))
first_is_there (Some d) e = refl

pub asks : Asks
unfolding asked asked_of
asks =
    record {
      objects = λ p. refl;
      domains = λ p. refl;
      first = λ p. first_is_there (model_of p).first p.begins;
      typ = λ p o. refl;
      reads = λ p d o. refl;
      writes = λ p d o. refl;
      appends = λ p d o. refl;
      makes = λ p d o. refl;
      runs = λ p d o. refl;
      passes = λ p d o e. refl;
      autos = λ p d o. refl;
    }

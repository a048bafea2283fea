use Rattle.std.proofs.Common.{refl}
use Rattle.machine.specs.Policy.{Policy}
use Rattle.machine.specs.Flow.{Objects, of_type}
use Rattle.machine.specs.Separation.{Separated, SeparatedFreely, SetsSeparatedExactly, SetsSeparatedFreely}
use Rattle.machine.proofs.no_chain_exactly_when_separated.Goals as goal
use Rattle.machine.proofs.Sound.{no_chain_separates}
use Rattle.machine.proofs.Bearer.{separated_has_no_chain}

free_is_separated : (P : Policy) (From To : Objects) → SeparatedFreely P From To → Separated P From To
free_is_separated P From To s m n pm pn q es pes = s m n q es

exactly : SetsSeparatedExactly
exactly P From To = (λ h. free_is_separated P From To (no_chain_separates P From To h), separated_has_no_chain P From To)

freely : SetsSeparatedFreely
freely P From To = (no_chain_separates P From To, λ s. separated_has_no_chain P From To (free_is_separated P From To s))

pub returns : goal.returns
returns c = record { types = λ P A B. exactly P (of_type P A) (of_type P B); sets = exactly; freely = freely; answer = refl }

-- A session worked out: the calls, and the answer that each gets from a book that was new. Assumes nothing.
use Rattle.std.specs.Prelude.{◌≡◌, ◌&&◌, ◌||◌, List, [], ◌∷◌, map, None, Ok, Err, Result, ◌==◌}
use Rattle.std.proofs.Common.{lit<}
use Rattle.terms.specs.declared.literals.Literal.TheVariants.{Concept, Exists, Forall}
use Rattle.terms.specs.declared.refusals.Refusal.{Refusal}
use Rattle.terms.specs.declared.refusals.Refusal.TheVariants.{NoneContradicts}
use Rattle.terms.specs.declared.roles.Role.{Role}
use Rattle.models.specs.Meanings.{Meaning}
use Rattle.calculus.specs.Events.{Event, ask, close, core, empty, enter_axiom, hyper, open_context, pred, refute}
use Rattle.calculus.specs.Register.{Register}
use Rattle.calculus.specs.Replies.{after, reply}
use Rattle.calculus.specs.declared.answers.Answer.{Answer}
use Rattle.calculus.specs.declared.answers.Answer.TheVariants.{Closed, Entered, Refuted, Shown, Unshown}

-- role name 0, read forwards and backwards
abbrev pub forwards : Role
forwards = record { code = 0; ok = lit< tt }

abbrev pub backwards : Role
backwards = record { code = 1; ok = lit< tt }

-- two elements: 0 is in the concepts 1 and 3, 1 is in 2, and role name 0 links 0 to 1
abbrev pub small_sample : Meaning
small_sample = record {
  fault = None;
  size = 2;
  has_element = λ A x. (x == 0 && (A == 1 || A == 3)) || (x == 1 && A == 2);
  has_link = λ r x y. (r == 0) && x == 0 && (y == 1);
}

-- what is in 1 has a pair of role 0 into 2, and what is in 2 has its pairs of the mirror into 3 alone; so all of 1 is in 3, and not all of it in 4
abbrev pub session : List (Event × Result Answer Refusal)
session =
    (enter_axiom (1 ∷ []) (Exists forwards 2 ∷ []), Ok (Entered 0))
    ∷ (enter_axiom (2 ∷ []) (Forall backwards 3 ∷ []), Ok (Entered 1))
    ∷ (close, Ok Closed)
    ∷ (open_context (1 ∷ []), Ok (Entered 0))
    ∷ (open_context (2 ∷ []), Ok (Entered 1))
    ∷ (core 0 1 111, Ok (Entered 0))
    ∷ (hyper 0 0 (0 ∷ []) (Exists forwards 2 ∷ []) 111, Ok (Entered 1))
    ∷ (core 1 2 111, Ok (Entered 2))
    ∷ (hyper 1 1 (2 ∷ []) (Forall backwards 3 ∷ []) 111, Ok (Entered 3))
    ∷ (pred 0 1 forwards 2 [] 3 (Concept 3 ∷ []) 111, Ok (Entered 4))
    ∷ (ask (1 ∷ []) (3 ∷ []), Ok (Shown 4))
    ∷ (ask (1 ∷ []) (4 ∷ []), Ok Unshown)
    ∷ (refute (1 ∷ []) (4 ∷ []) small_sample, Ok (Refuted 0))
    ∷ (refute (1 ∷ []) (3 ∷ []) small_sample, Err NoneContradicts)
    ∷ []

-- the answers that a book which holds R gives to these calls, one after the other
abbrev pub answers : Register → List Event → List (Result Answer Refusal)
answers R [] = []
answers R (e ∷ es) = reply R e ∷ answers (after R e) es

abbrev pub Worked : Type 0
Worked = answers empty (map (λ s. s.0) session) ≡ map (λ s. s.1) session

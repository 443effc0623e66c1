-- The names of reasons and faults by their numbers. A number that has none has the name of 0.
use Rattle.std.specs.Prelude.{List, [], ◌∷◌, ℕ, get_or}
use Rattle.text.specs.Buffer.{chars}

abbrev pub reason_names : List (List ℕ)
reason_names =
    chars "no reason" ∷ chars "bad length" ∷ chars "record too long" ∷ chars "no instruction" ∷ chars "writes r10" ∷
    chars "jumps back" ∷ chars "leaves the program" ∷ chars "reads an unset register" ∷ chars "access may be outside" ∷
    chars "may report an address" ∷ chars "no reason" ∷ chars "no reason" ∷ chars "dead code" ∷ []

unfoldable pub reason_name : ℕ → List ℕ
reason_name reason = get_or reason_names reason (chars "no reason")

abbrev pub fault_names : List (List ℕ)
fault_names =
    chars "no fault" ∷ chars "no instruction" ∷ chars "off the end" ∷ chars "read an unset register" ∷ chars "wrote r10" ∷
    chars "access outside" ∷ []

unfoldable pub fault_name : ℕ → List ℕ
fault_name fault = get_or fault_names fault (chars "no fault")

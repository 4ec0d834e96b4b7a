-- BOOLEAN (X.690 8.2).
use Rattle.std.specs.Prelude.{ℕ, Bool, true, false, List, [], ◌∷◌, ◌==◌, Ok, Err, if◌then◌else◌}
use Rattle.der_core.specs.declared.error.ErrorKind.TheVariants.{Length, Value}
use Rattle.der_core.specs.Readings.{Reading}
use Rattle.der_core.specs.Tags.{boolean_tag}

-- One contents octet (8.2.1): 0 for FALSE (8.2.2), and 255 for TRUE (11.1).
abbrev pub boolean_contents : Bool → List ℕ
boolean_contents value = (if value then 255 else 0) ∷ []

-- The value with these contents, or the first fault.
abbrev pub boolean_of : Reading Bool
boolean_of [] = Err (Length boolean_tag)
boolean_of (x ∷ []) =
    if x == 255 then Ok true else if x == 0 then Ok false else Err (Value boolean_tag)
boolean_of (x ∷ y ∷ ys) = Err (Length boolean_tag)

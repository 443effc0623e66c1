-- What is told of the registers at the start of a program, and where no path comes.
use Rattle.std.proofs.Common.{None, Some}
use mathlib.Core.Path.{◌≡◌, refl}
use Rattle.text.specs.Buffer.{chars, last_digits, decimal}
use Rattle.number.specs.Sharpen.{just, exact}
use Rattle.analysis.specs.Values.{value_of, start_facts}
use Rattle.verifier.specs.Inspect.{known_of}
use Rattle.listing.specs.Signed.{sign, magnitude, signed_text}
use Rattle.listing.specs.ValueText.{signed_end_text, signed_range_text, is_everything, offset_text, inside_text, stack_text, address_text, gone_text, value_text}
use Rattle.explain.specs.Known.{told_text, known_text}

the_record : known_text (Some start_facts) 1 ≡ chars "record+0"
unfolding known_text known_of value_of start_facts exact just told_text value_text address_text offset_text is_everything signed_range_text signed_end_text signed_text sign magnitude decimal last_digits
the_record = refl

the_end_of_the_stack : known_text (Some start_facts) 10 ≡ chars "stack"
unfolding known_text known_of value_of start_facts exact just told_text value_text address_text stack_text inside_text
the_end_of_the_stack = refl

others_are_unset : (known_text (Some start_facts) 0 ≡ chars "unset") × (known_text (Some start_facts) 11 ≡ chars "unset")
unfolding known_text known_of value_of start_facts told_text value_text gone_text
others_are_unset = (refl, refl)

where_no_path_comes : known_text None 1 ≡ chars "not reached"
unfolding known_text known_of told_text
where_no_path_comes = refl

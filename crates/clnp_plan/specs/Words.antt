-- The words of a line, as the code has them.
use Rattle.std.specs.Prelude.{ℕ, List, [], ◌∷◌, ◌++◌, codes}
use Rattle.std.specs.Fmt.{decimal}
use Rattle.pdus.specs.Nsap.Prefix.{prefix_text}
use Rattle.pdus.specs.Nsap.Text.{hex_text}
use Rattle.pdus.specs.PduHeader.Spelling.{pair_of}
use Rattle.clnp_plan.specs.declared.line.Word.{Word}
use Rattle.clnp_plan.specs.declared.line.Word.TheVariants.{Text, Number, KeyedNumber, Octet, Identifier, Octets, Parts, KeyedOctets, Address, Prefix, Pattern}
use Rattle.clnp_plan.specs.declared.journal.Start.{Start}
use Rattle.clnp_plan.specs.Journal.{line_of}

abbrev pub word_text : Word → List ℕ
word_text (Text text) = text.now
word_text (Number number) = decimal number
word_text (KeyedNumber key number) = key.now ++ decimal number
word_text (Octet octet) = hex_text (octet ∷ [])
word_text (Identifier identifier) = hex_text (pair_of identifier)
word_text (Octets octets) = hex_text octets.now
word_text (Parts front behind) = hex_text front.now ++ hex_text behind.now
word_text (KeyedOctets key octets) = key.now ++ hex_text octets.now
word_text (Address address) = hex_text address.now
word_text (Prefix prefix) = prefix_text prefix.now
word_text (Pattern len start) = (codes "pat:" ++ decimal len) ++ (codes ":" ++ decimal start)

-- a system's line: its beginning, and the words behind it
abbrev pub line_from : Start → List (List ℕ) → List ℕ
line_from start words = line_of (decimal start.moment) (start.name.now ∷ words)

-- the texts of five words
abbrev pub five_texts : Word → Word → Word → Word → Word → List (List ℕ)
five_texts one two three four five = word_text one ∷ word_text two ∷ word_text three ∷ word_text four ∷ word_text five ∷ []

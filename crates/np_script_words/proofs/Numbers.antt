-- Words of numbers.
use Rattle.std.proofs.Common.{◌≡◌, ℕ, ◌^◌, ◌<◌, true, List, Result, Ok, ℤ, pos, negsuc, subst, sym, arith}
use Rattle.std.specs.Str.{IsUtf8}
use Rattle.std.specs.Fmt.{decimal, signed_decimal}
use Rattle.std.specs.Str.Parse.{ParsesUnsigned, ParsesSigned}
use Rattle.std.specs.Int.RustNames.{FitsSigned}
use Rattle.std.proofs.lemmas.Str.{IsUtf8-from_ascii}
use Rattle.std.proofs.lemmas.Fmt.{IsAscii-decimal, IsAscii-signed, parse-decimal, parse-signed_decimal}
use Rattle.std.proofs.lemmas.Bool.Decides.{nat_tests}
use lib.Signed.{mag}
use mir.Syntax.{w32}
use Rattle.np_script_grammar.specs.Fields.{is_int}

pub decimal_is_utf8 : (word : List ℕ) (n : ℕ) → n < 2 ^ 32 → word ≡ decimal n → IsUtf8 word
decimal_is_utf8 word n small e = subst IsUtf8 (sym e) (IsUtf8-from_ascii (decimal n) (IsAscii-decimal n (omega arith)))

pub decimal_parses : {E : Type 0} (word : List ℕ) (n : ℕ) (r : Result ℕ E) → n < 2 ^ 32 → word ≡ decimal n → ParsesUnsigned 32 10 word r → r ≡ Ok n
decimal_parses word n r small e p = parse-decimal 32 n word r small (omega arith) e p

-- ---- with a sign

pub int_mag : (n : ℤ) → is_int n ≡ true → mag n < 2 ^ 63
int_mag (pos n) e = grind (arith, nat_tests)
int_mag (negsuc n) e = grind (arith, nat_tests)

int_fits : (n : ℤ) → is_int n ≡ true → FitsSigned w32 n
int_fits (pos n) e = grind (arith, nat_tests)
int_fits (negsuc n) e = grind (arith, nat_tests)

pub signed_is_utf8 : (word : List ℕ) (n : ℤ) → is_int n ≡ true → word ≡ signed_decimal n → IsUtf8 word
signed_is_utf8 word n small e = subst IsUtf8 (sym e) (IsUtf8-from_ascii (signed_decimal n) (IsAscii-signed n (int_mag n small)))

pub signed_parses : {E : Type 0} (word : List ℕ) (n : ℤ) (r : Result ℤ E) → is_int n ≡ true → word ≡ signed_decimal n → ParsesSigned w32 10 word r → r ≡ Ok n
signed_parses word n r small e p = parse-signed_decimal w32 n word r (int_fits n small) (int_mag n small) e p

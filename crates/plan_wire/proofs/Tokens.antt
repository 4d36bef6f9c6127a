-- A text has at most one token more than bytes: a byte gives at most one lexeme, a lexeme at most one token, and a fault at the end one more.
use Rattle.std.proofs.Common.{◌≤◌, ℕ, suc, Bool, true, false, List, [], ◌∷◌, length, arith}
use Rattle.json.specs.Token.{Token, begin_object, end_object, begin_array, end_array, key, string, number, boolean, null, bad}
use Rattle.json.specs.Lex.{Lexeme, token, comma, colon, Class, quote, backslash, operator, space, other, Mode, between, in_word, in_string, in_escape, class, lex_byte, lex, Place, fresh, after_value, after_comma, after_key, begins_colon, may_begin, may_close, if_allowed, place_token, punctuate, tokens}

module _ (x : ℕ) (xs : List ℕ) (k : Mode → List Lexeme) (n : ℕ) (a : length (k between) ≤ n) (b : length (k in_word) ≤ n) (c : length (k in_string) ≤ n) (d : length (k in_escape) ≤ n) where
  one_lexeme : (m : Mode) (t : Class) → length (lex_byte m t x xs k) ≤ suc n
  one_lexeme between quote = omega arith
  one_lexeme between backslash = omega arith
  one_lexeme between operator = omega arith
  one_lexeme between space = omega arith
  one_lexeme between other = omega arith
  one_lexeme in_word quote = omega arith
  one_lexeme in_word backslash = omega arith
  one_lexeme in_word operator = omega arith
  one_lexeme in_word space = omega arith
  one_lexeme in_word other = omega arith
  one_lexeme in_string quote = omega arith
  one_lexeme in_string backslash = omega arith
  one_lexeme in_string operator = omega arith
  one_lexeme in_string space = omega arith
  one_lexeme in_string other = omega arith
  one_lexeme in_escape t = omega arith

lexemes : (m : Mode) (xs : List ℕ) → length (lex m xs) ≤ length xs
unfolding lex
lexemes m [] = omega arith
lexemes m (x ∷ xs) = one_lexeme x xs (λ next. lex next xs) (length xs) (lexemes between xs) (lexemes in_word xs) (lexemes in_string xs) (lexemes in_escape xs) m (class x)

module _ (k : Place → List Token) (n : ℕ) (more : (p : Place) → length (k p) ≤ n) where
  allowed : (b : Bool) (t : Token) (p : Place) → length (if_allowed b t k p) ≤ suc n
  allowed true t p = omega (arith, more p)
  allowed false t p = omega arith

  one_token : (p : Place) (t : Token) (b : Bool) → length (place_token p t b k) ≤ suc n
  one_token p begin_object b = allowed (may_begin p) begin_object fresh
  one_token p end_object b = allowed (may_close p) end_object after_value
  one_token p begin_array b = allowed (may_begin p) begin_array fresh
  one_token p end_array b = allowed (may_close p) end_array after_value
  one_token p (key s) b = omega arith
  one_token p (string s) true = allowed (may_begin p) (key s) after_key
  one_token p (string s) false = allowed (may_begin p) (string s) after_value
  one_token p (number s) b = allowed (may_begin p) (number s) after_value
  one_token p (boolean v) b = allowed (may_begin p) (boolean v) after_value
  one_token p null b = allowed (may_begin p) null after_value
  one_token p bad b = omega arith

placed : (p : Place) (ls : List Lexeme) → length (punctuate p ls) ≤ suc (length ls)
unfolding punctuate
placed fresh [] = omega arith
placed after_value [] = omega arith
placed after_comma [] = omega arith
placed after_key [] = omega arith
placed p (token t ∷ ls) = one_token (λ next. punctuate next ls) (suc (length ls)) (λ next. placed next ls) p t (begins_colon ls)
placed fresh (comma ∷ ls) = omega arith
placed after_value (comma ∷ ls) = omega (arith, placed after_comma ls)
placed after_comma (comma ∷ ls) = omega arith
placed after_key (comma ∷ ls) = omega arith
placed fresh (colon ∷ ls) = omega arith
placed after_value (colon ∷ ls) = omega arith
placed after_comma (colon ∷ ls) = omega arith
placed after_key (colon ∷ ls) = omega (arith, placed fresh ls)

pub length-tokens : (text : List ℕ) → length (tokens text) ≤ suc (length text)
length-tokens text = omega (arith, placed fresh (lex between text), lexemes between text)

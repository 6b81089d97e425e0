-- Whole texts and the result of the data: URL processor for them, by computation.
use Rattle.std.proofs.Common.{◌≡◌, ℕ, List, [], ◌∷◌, ◌++◌, None, Some, codes, map, refl}
use Rattle.data_url.specs.Fetch.{Accepted, Bad, Good, NoComma, NoScheme, Staged, staged, tail_of}
use Rattle.data_url.specs.declared.forgiving_base64.InvalidBase64Details.TheVariants.{Padding, UnexpectedSymbol}
use Rattle.data_url.proofs.examples.Literals.{on_literals}

-- texts, each with its result
abbrev table : List (List ℕ × Staged)
table =
    (codes "data:,Hello%20World!", Accepted [] (Good (codes "Hello World!")) None)
    ∷ (0 ∷ 32 ∷ codes "DA" ++ (9 ∷ codes "TA:" ++ (10 ∷ codes ",x " ++ (31 ∷ []))), Accepted [] (Good (codes "x")) None)
    ∷ (codes "da ta:,x", NoScheme)
    ∷ ([], NoScheme)
    ∷ (codes "date:,x", NoScheme)
    ∷ (codes "data:#,x", NoComma)
    ∷ (codes "data://test:test/,X", Accepted (codes "//test:test/") (Good (codes "X")) None)
    ∷ (codes "data:,%4" ++ (9 ∷ codes "1"), Accepted [] (Good (codes "A")) None)
    ∷ (codes "data:,%4" ++ (13 ∷ codes "1"), Accepted [] (Good (codes "A")) None)
    ∷ (codes "data:,%2541%254", Accepted [] (Good (codes "%41%4")) None)
    ∷ (codes "data:,%4g%g4%", Accepted [] (Good (codes "%4g%g4%")) None)
    ∷ (codes "data:,%4a%4A%6f", Accepted [] (Good (codes "JJo")) None)
    ∷ (codes "data:,%zz%4", Accepted [] (Good (codes "%zz%4")) None)
    ∷ (codes "data:,%%34" ++ (10 ∷ codes "1"), Accepted [] (Good (codes "%41")) None)
    ∷ (codes "data:,%4#1", Accepted [] (Good (codes "%4")) (Some (codes "1")))
    ∷ (codes "data:,%" ++ (9 ∷ 9 ∷ codes "#"), Accepted [] (Good (codes "%")) (Some []))
    ∷ (codes "data:a/b;c=?x ,Y", Accepted (codes "a/b;c=?x%20") (Good (codes "Y")) None)
    ∷ (codes "data:?;base64 ,QQ", Accepted (codes "?;base64%20") (Good (codes "QQ")) None)
    ∷ (codes "data:?;base64,QQ==", Accepted (codes "?") (Good (codes "A")) None)
    ∷ (
      codes "data:;charset=x;base64,Y%51%3D=#x y",
      Accepted (codes "text/plain;charset=x") (Good (codes "a")) (Some (codes "x%20y")),
    )
    ∷ (codes "data:;base64,QUJD!", Accepted [] (Bad (codes "ABC") (UnexpectedSymbol 33)) None)
    ∷ (codes "data:,#a" ++ (9 ∷ 96 ∷ 195 ∷ 169 ∷ []), Accepted [] (Good []) (Some (codes "a%60%C3%A9")))
    ∷ (codes "data:,#%#" ++ (34 ∷ codes "<>"), Accepted [] (Good []) (Some (codes "%#%22%3C%3E")))
    ∷ (codes "data:a/b;c= ?x,Y", Accepted (codes "a/b;c=%20?x") (Good (codes "Y")) None)
    ∷ (codes "data:a/b;c=x  ?y,Y", Accepted (codes "a/b;c=x %20?y") (Good (codes "Y")) None)
    ∷ (codes "data:a/b;c= " ++ (9 ∷ codes "?x,Y"), Accepted (codes "a/b;c=%20?x") (Good (codes "Y")) None)
    ∷ (
      codes "data:a/b;c=" ++ (34 ∷ codes " ?" ++ (34 ∷ codes ",Y")),
      Accepted (codes "a/b;c=" ++ (34 ∷ codes "%20?%22")) (Good (codes "Y")) None,
    )
    ∷ (codes "data:,x #f", Accepted [] (Good (codes "x ")) (Some (codes "f")))
    ∷ (codes "data:,a ?b", Accepted [] (Good (codes "a ?b")) None)
    ∷ (codes "data: ?,x", Accepted (codes "%20?") (Good (codes "x")) None)
    ∷ (codes "data:;base64,", Accepted [] (Good []) None)
    ∷ (codes "data:;base64,=", Accepted [] (Bad [] Padding) None)
    ∷ (codes "data:text/html;BASE64 ,QQ", Accepted (codes "text/html") (Good (codes "A")) None)
    ∷ (codes "data:text/html; base64,QQ", Accepted (codes "text/html") (Good (codes "A")) None)
    ∷ (codes "data:base64,QQ", Accepted (codes "base64") (Good (codes "QQ")) None)
    ∷ (codes "data:;ba" ++ (9 ∷ codes "se64,QQ"), Accepted [] (Good (codes "A")) None)
    ∷ (codes "data:a/b?c,d", Accepted (codes "a/b?c") (Good (codes "d")) None)
    ∷ (
      codes "data:text/plain;x=" ++ (195 ∷ 169 ∷ 44 ∷ 195 ∷ 169 ∷ []),
      Accepted (codes "text/plain;x=%C3%A9") (Good (195 ∷ 169 ∷ [])) None,
    )
    ∷ (
      codes "data:a/b;c=?<" ++ (34 ∷ codes "?>,Y" ++ (34 ∷ [])),
      Accepted (codes "a/b;c=?%3C%22?%3E") (Good (codes "Y" ++ (34 ∷ []))) None,
    )
    ∷ (
      codes "data:a/b;c=" ++ (34 ∷ codes "d e" ++ (34 ∷ codes ",Y")),
      Accepted (codes "a/b;c=" ++ (34 ∷ codes "d e" ++ (34 ∷ []))) (Good (codes "Y")) None,
    )
    ∷ (codes "data:" ++ (12 ∷ codes "a/b,x"), Accepted (codes "%0Ca/b") (Good (codes "x")) None)
    ∷ (codes "data:a/b;c=" ++ (127 ∷ codes ",x"), Accepted (codes "a/b;c=%7F") (Good (codes "x")) None)
    ∷ []

-- each text has its result
results : map (λ row. staged row.0) table ≡ map (λ row. row.1) table
unfolding on_literals
results = refl

-- a tail keeps its tabs, and the space at the end of the URL is not part of it
tail_keeps_tabs : tail_of (32 ∷ codes "data:," ++ (9 ∷ codes "x,#" ++ (9 ∷ codes "y "))) ≡ Some
    (9 ∷ codes "x,#" ++ (9 ∷ codes "y"))
unfolding on_literals
tail_keeps_tabs = refl

-- What is printed of a certificate is read back as that certificate.
use Rattle.std.specs.Prelude.{◌≡◌, ℕ, List, codes, Some, Ok, All}
use Rattle.serde_json.specs.Data.{Data}
use Rattle.serde_json.specs.Find.{get}
use Rattle.plan_grid.specs.Bounds.{IsInRange}
use Rattle.plan_wire.specs.Reading.{Read, made, member}
use Rattle.plan_wire.specs.Documents as documents
use Rattle.plan_wire.specs.Documents.{Certificate, path, chain, proof, json_of, query_of, certificate_of, task_of, document_of}
use Rattle.plan_wire.specs.Bounds.{EndsFit}
use Rattle.plan_wire.specs.CertificateText.{certificate_text}
use Rattle.plan_wire.specs.declared.documents.Want.TheVariants.{Check}

-- all its points are in range, and so in lowest terms
abbrev pub HasPointsInRange : Certificate → Type 0
HasPointsInRange (path points) = All IsInRange points
HasPointsInRange (chain segments) = All EndsFit segments

-- the text is JSON, and its value is read as the certificate, wherever it stands
pub record IsReadAs (text : List ℕ) (c : Certificate) : Type 0 where
  pub value : Data
  pub json : json_of text ≡ Ok value
  pub read : (place : List ℕ) → certificate_of place value ≡ Ok c

-- the text of each certificate is read as it
abbrev pub ReadBack : Type 0
ReadBack = (c : Certificate) → HasPointsInRange c → IsReadAs (certificate_text c) c

-- what is asked is read as a query and this certificate, and is refused only where the query is; so is what the whole document asks
pub record IsReadWith (c : Certificate) (whole : Data) (read : Read documents.Document) : Type 0 where
  pub task : (place : List ℕ) → task_of Check place whole ≡ made (λ query. proof query c) (member (codes "query") query_of place whole)
  pub document : (d : documents.Document) → read ≡ Ok d → (query : documents.Query) × (d.task ≡ proof query c)

-- a document of `check` whose member `certificate` has the value of the text is read with that certificate
abbrev pub ReadInDocument : Type 0
ReadInDocument =
    (text : List ℕ) (c : Certificate) (r : IsReadAs text c)
    → (bytes : List ℕ) (whole : Data) → json_of bytes ≡ Ok whole → get (codes "certificate") whole ≡ Some r.value → IsReadWith c whole (document_of bytes Check)

-- The definition of documents, tried on texts: each line computes.
use Rattle.std.specs.Prelude.{◌≡◌, ⊤, ℕ, ℤ, pos, neg_ℤ, ◌++◌, List, [], ◌∷◌, codes, Ok, Err, refl}
use Rattle.std.specs.Str.{is_utf8, chars}
use Rattle.std.specs.Fmt.{digits}
use Rattle.serde_json.specs.Read.{read}
use Rattle.serde_json.proofs.OnLiterals.{serde_json_on_literals}
use Rattle.plan_spec.specs.Vector.{Vector, spot}
use Rattle.plan_spec.specs.Segment.{segment}
use Rattle.plan_wire.specs.Reading.{Read, Reader, json, form, range, bind, made, some_or, integer, whole, elements, object}
use Rattle.plan_wire.specs.Documents.{path, chain, remove, spot_of, robot_of, shape_of, frame_of, id_of, obstacle_of, obstacles_of, query_of, queries_of, edit_of, edits_of, lanes_of, round_of, gcd, lowest, point_at, point_of, segment_of, certificate_of, task_of, value_of, document_of}
use Rattle.plan_wire.specs.CertificateText.{certificate_text}
use Rattle.plan_wire.specs.declared.documents.Want.{Want}
use Rattle.plan_wire.specs.declared.documents.Want.TheVariants.{Plan, Session, Check}

-- what a line unfolds to compute
unfoldable on_literals : ⊤
unfolding serde_json_on_literals is_utf8 chars digits integer whole elements object spot_of frame_of id_of obstacle_of query_of edit_of round_of gcd lowest point_at point_of segment_of certificate_of task_of value_of document_of
on_literals = tt

-- what f reads of the text, as if it were the whole document
abbrev on : {A : Type 0} → Reader A → List ℕ → Read A
on f text = bind (some_or json (read text)) (f (codes "$"))

-- what it is of the place, where only the refusal matters
abbrev there : {A : Type 0} → Read A → Read ⊤
there o = made (λ _. tt) o

-- ---- whole numbers: the form, then the range

least_corner : on spot_of (codes "[-1023,1023]") ≡ Ok (spot (neg_ℤ (pos 1023)) (pos 1023))
unfolding on_literals
least_corner = refl

below_least : there (on spot_of (codes "[-1024,0]")) ≡ Err (range (codes "$[0]"))
unfolding on_literals
below_least = refl

beyond_greatest : there (on spot_of (codes "[0,1024]")) ≡ Err (range (codes "$[1]"))
unfolding on_literals
beyond_greatest = refl

form_of_a_point : there (on spot_of (codes "[1.0,0]")) ≡ Err (form (codes "$[0]"))
unfolding on_literals
form_of_a_point = refl

form_of_an_exponent : there (on spot_of (codes "[1e3,0]")) ≡ Err (form (codes "$[0]"))
unfolding on_literals
form_of_an_exponent = refl

form_of_minus_zero : there (on spot_of (codes "[-0,0]")) ≡ Err (form (codes "$[0]"))
unfolding on_literals
form_of_minus_zero = refl

form_of_a_text : there (on spot_of (codes "[\"1\",0]")) ≡ Err (form (codes "$[0]"))
unfolding on_literals
form_of_a_text = refl

form_of_nothing : there (on spot_of (codes "[null,0]")) ≡ Err (form (codes "$[0]"))
unfolding on_literals
form_of_nothing = refl

form_of_beyond_64_bits : there (on spot_of (codes "[9223372036854775808,0]")) ≡ Err (form (codes "$[0]"))
unfolding on_literals
form_of_beyond_64_bits = refl

-- ---- lists of fixed length: another kind, another length, then the parts in order, each wholly before the next

not_a_list : there (on spot_of (codes "{}")) ≡ Err (form (codes "$"))
unfolding on_literals
not_a_list = refl

too_short : there (on spot_of (codes "[0]")) ≡ Err (form (codes "$"))
unfolding on_literals
too_short = refl

too_long_for_a_spot : there (on spot_of (codes "[0,0,0]")) ≡ Err (form (codes "$"))
unfolding on_literals
too_long_for_a_spot = refl

range_of_the_first_before_form_of_the_second : there (on spot_of (codes "[2000,1.0]")) ≡ Err (range (codes "$[0]"))
unfolding on_literals
range_of_the_first_before_form_of_the_second = refl

form_of_the_first_before_range_of_the_second : there (on spot_of (codes "[1.0,2000]")) ≡ Err (form (codes "$[0]"))
unfolding on_literals
form_of_the_first_before_range_of_the_second = refl

-- ---- frames: the elements, then the sides

falling_x : there (on frame_of (codes "[20,0,0,20]")) ≡ Err (range (codes "$"))
unfolding on_literals
falling_x = refl

no_width : there (on frame_of (codes "[0,0,0,20]")) ≡ Err (range (codes "$"))
unfolding on_literals
no_width = refl

no_height : there (on frame_of (codes "[0,20,20,20]")) ≡ Err (range (codes "$"))
unfolding on_literals
no_height = refl

an_element_of_a_frame : there (on frame_of (codes "[20,0,0,1024]")) ≡ Err (range (codes "$[3]"))
unfolding on_literals
an_element_of_a_frame = refl

three_numbers_of_a_frame : there (on frame_of (codes "[20,0,0]")) ≡ Err (form (codes "$"))
unfolding on_literals
three_numbers_of_a_frame = refl

least_frame : there (on frame_of (codes "[0,0,1,1]")) ≡ Ok tt
unfolding on_literals
least_frame = refl

-- ---- lists between bounds: the length, then the parts

two_spots : there (on robot_of (codes "[[0,0],[0,0]]")) ≡ Err (range (codes "$"))
unfolding on_literals
two_spots = refl

three_spots : there (on robot_of (codes "[[0,0],[0,0],[0,0]]")) ≡ Ok tt
unfolding on_literals
three_spots = refl

sixteen_spots : there (on robot_of (codes "[[0,0],[0,0],[0,0],[0,0],[0,0],[0,0],[0,0],[0,0],[0,0],[0,0],[0,0],[0,0],[0,0],[0,0],[0,0],[0,0]]")) ≡ Ok tt
unfolding on_literals
sixteen_spots = refl

seventeen_spots : there (on robot_of (codes "[[0,0],[0,0],[0,0],[0,0],[0,0],[0,0],[0,0],[0,0],[0,0],[0,0],[0,0],[0,0],[0,0],[0,0],[0,0],[0,0],[0,0]]")) ≡ Err (range (codes "$"))
unfolding on_literals
seventeen_spots = refl

thirty_two_spots : there (on shape_of (codes "[[0,0],[0,0],[0,0],[0,0],[0,0],[0,0],[0,0],[0,0],[0,0],[0,0],[0,0],[0,0],[0,0],[0,0],[0,0],[0,0],[0,0],[0,0],[0,0],[0,0],[0,0],[0,0],[0,0],[0,0],[0,0],[0,0],[0,0],[0,0],[0,0],[0,0],[0,0],[0,0]]")) ≡ Ok tt
unfolding on_literals
thirty_two_spots = refl

thirty_three_spots : there (on shape_of (codes "[[0,0],[0,0],[0,0],[0,0],[0,0],[0,0],[0,0],[0,0],[0,0],[0,0],[0,0],[0,0],[0,0],[0,0],[0,0],[0,0],[0,0],[0,0],[0,0],[0,0],[0,0],[0,0],[0,0],[0,0],[0,0],[0,0],[0,0],[0,0],[0,0],[0,0],[0,0],[0,0],[0,0]]")) ≡ Err (range (codes "$"))
unfolding on_literals
thirty_three_spots = refl

length_before_the_parts : there (on robot_of (codes "[7,7]")) ≡ Err (range (codes "$"))
unfolding on_literals
length_before_the_parts = refl

the_first_part : there (on robot_of (codes "[[0,0],7,[0]]")) ≡ Err (form (codes "$[1]"))
unfolding on_literals
the_first_part = refl

kind_before_the_length : there (on robot_of (codes "7")) ≡ Err (form (codes "$"))
unfolding on_literals
kind_before_the_length = refl

-- ---- obstacles: an object, then the id, then the shape

no_object : there (on obstacles_of (codes "[7]")) ≡ Err (form (codes "$[0]"))
unfolding on_literals
no_object = refl

no_id : there (on obstacle_of (codes "{\"shape\":7}")) ≡ Err (form (codes "$.id"))
unfolding on_literals
no_id = refl

id_0 : there (on obstacle_of (codes "{\"id\":0,\"shape\":7}")) ≡ Err (range (codes "$.id"))
unfolding on_literals
id_0 = refl

id_65536 : there (on obstacle_of (codes "{\"id\":65536,\"shape\":7}")) ≡ Err (range (codes "$.id"))
unfolding on_literals
id_65536 = refl

id_65535 : there (on obstacle_of (codes "{\"id\":65535,\"shape\":7}")) ≡ Err (form (codes "$.shape"))
unfolding on_literals
id_65535 = refl

no_shape : there (on obstacle_of (codes "{\"id\":1}")) ≡ Err (form (codes "$.shape"))
unfolding on_literals
no_shape = refl

a_spot_of_a_shape : there (on obstacles_of (codes "[{\"id\":1,\"shape\":[[0,0],[0,-1024],[0,0]]}]")) ≡ Err (range (codes "$[0].shape[1][1]"))
unfolding on_literals
a_spot_of_a_shape = refl

no_obstacles : there (on obstacles_of (codes "[]")) ≡ Ok tt
unfolding on_literals
no_obstacles = refl

-- ---- queries

greatest_query : there (on query_of (codes "[-2046,2046,2046,-2046]")) ≡ Ok tt
unfolding on_literals
greatest_query = refl

goal_beyond : there (on query_of (codes "[0,0,0,2047]")) ≡ Err (range (codes "$[3]"))
unfolding on_literals
goal_beyond = refl

five_numbers : there (on query_of (codes "[0,0,0,0,0]")) ≡ Err (form (codes "$"))
unfolding on_literals
five_numbers = refl

sixty_four_queries : there (on queries_of (codes "[[0,0,0,0],[0,0,0,0],[0,0,0,0],[0,0,0,0],[0,0,0,0],[0,0,0,0],[0,0,0,0],[0,0,0,0],[0,0,0,0],[0,0,0,0],[0,0,0,0],[0,0,0,0],[0,0,0,0],[0,0,0,0],[0,0,0,0],[0,0,0,0],[0,0,0,0],[0,0,0,0],[0,0,0,0],[0,0,0,0],[0,0,0,0],[0,0,0,0],[0,0,0,0],[0,0,0,0],[0,0,0,0],[0,0,0,0],[0,0,0,0],[0,0,0,0],[0,0,0,0],[0,0,0,0],[0,0,0,0],[0,0,0,0],[0,0,0,0],[0,0,0,0],[0,0,0,0],[0,0,0,0],[0,0,0,0],[0,0,0,0],[0,0,0,0],[0,0,0,0],[0,0,0,0],[0,0,0,0],[0,0,0,0],[0,0,0,0],[0,0,0,0],[0,0,0,0],[0,0,0,0],[0,0,0,0],[0,0,0,0],[0,0,0,0],[0,0,0,0],[0,0,0,0],[0,0,0,0],[0,0,0,0],[0,0,0,0],[0,0,0,0],[0,0,0,0],[0,0,0,0],[0,0,0,0],[0,0,0,0],[0,0,0,0],[0,0,0,0],[0,0,0,0],[0,0,0,0]]")) ≡ Ok tt
unfolding on_literals
sixty_four_queries = refl

sixty_five_queries : there (on queries_of (codes "[[0,0,0,0],[0,0,0,0],[0,0,0,0],[0,0,0,0],[0,0,0,0],[0,0,0,0],[0,0,0,0],[0,0,0,0],[0,0,0,0],[0,0,0,0],[0,0,0,0],[0,0,0,0],[0,0,0,0],[0,0,0,0],[0,0,0,0],[0,0,0,0],[0,0,0,0],[0,0,0,0],[0,0,0,0],[0,0,0,0],[0,0,0,0],[0,0,0,0],[0,0,0,0],[0,0,0,0],[0,0,0,0],[0,0,0,0],[0,0,0,0],[0,0,0,0],[0,0,0,0],[0,0,0,0],[0,0,0,0],[0,0,0,0],[0,0,0,0],[0,0,0,0],[0,0,0,0],[0,0,0,0],[0,0,0,0],[0,0,0,0],[0,0,0,0],[0,0,0,0],[0,0,0,0],[0,0,0,0],[0,0,0,0],[0,0,0,0],[0,0,0,0],[0,0,0,0],[0,0,0,0],[0,0,0,0],[0,0,0,0],[0,0,0,0],[0,0,0,0],[0,0,0,0],[0,0,0,0],[0,0,0,0],[0,0,0,0],[0,0,0,0],[0,0,0,0],[0,0,0,0],[0,0,0,0],[0,0,0,0],[0,0,0,0],[0,0,0,0],[0,0,0,0],[0,0,0,0],[0,0,0,0]]")) ≡ Err (range (codes "$"))
unfolding on_literals
sixty_five_queries = refl

-- ---- edits: exactly one of the two, whatever its value; then the id, then the shape

neither : there (on edit_of (codes "{}")) ≡ Err (form (codes "$"))
unfolding on_literals
neither = refl

both : there (on edit_of (codes "{\"add\":null,\"remove\":1}")) ≡ Err (form (codes "$"))
unfolding on_literals
both = refl

no_edit : there (on edit_of (codes "7")) ≡ Err (form (codes "$"))
unfolding on_literals
no_edit = refl

id_before_shape : there (on edit_of (codes "{\"add\":0}")) ≡ Err (range (codes "$.add"))
unfolding on_literals
id_before_shape = refl

no_shape_beside_add : there (on edit_of (codes "{\"add\":1}")) ≡ Err (form (codes "$.shape"))
unfolding on_literals
no_shape_beside_add = refl

shape_beside_remove : on edit_of (codes "{\"remove\":1,\"shape\":7}") ≡ Ok (remove 1)
unfolding on_literals
shape_beside_remove = refl

removed_65536 : there (on edit_of (codes "{\"remove\":65536}")) ≡ Err (range (codes "$.remove"))
unfolding on_literals
removed_65536 = refl

thirty_three_edits : there (on edits_of (codes "[7,7,7,7,7,7,7,7,7,7,7,7,7,7,7,7,7,7,7,7,7,7,7,7,7,7,7,7,7,7,7,7,7]")) ≡ Err (range (codes "$"))
unfolding on_literals
thirty_three_edits = refl

-- ---- rounds: the edits, then the lanes

no_edits : there (on round_of (codes "{}")) ≡ Err (form (codes "$.edits"))
unfolding on_literals
no_edits = refl

no_lanes : there (on round_of (codes "{\"edits\":[]}")) ≡ Err (form (codes "$.lanes"))
unfolding on_literals
no_lanes = refl

edits_before_lanes : there (on round_of (codes "{\"lanes\":7,\"edits\":[{\"remove\":0}]}")) ≡ Err (range (codes "$.edits[0].remove"))
unfolding on_literals
edits_before_lanes = refl

nine_lanes : there (on lanes_of (codes "[7,7,7,7,7,7,7,7,7]")) ≡ Err (range (codes "$"))
unfolding on_literals
nine_lanes = refl

seventeen_queries_of_a_lane : there (on lanes_of (codes "[[],[7,7,7,7,7,7,7,7,7,7,7,7,7,7,7,7,7]]")) ≡ Err (range (codes "$[1]"))
unfolding on_literals
seventeen_queries_of_a_lane = refl

eight_lanes : there (on lanes_of (codes "[[],[],[],[],[],[],[],[]]")) ≡ Ok tt
unfolding on_literals
eight_lanes = refl

-- ---- points: three numbers, then the range; lowest terms

lowest_terms : on point_of (codes "[2,4,6]") ≡ Ok (record { x = pos 1; y = pos 2; w = pos 3 })
unfolding on_literals
lowest_terms = refl

origin : on point_of (codes "[0,0,7]") ≡ Ok (spot (pos 0) (pos 0))
unfolding on_literals
origin = refl

negative : on point_of (codes "[-6,4,2]") ≡ Ok (spot (neg_ℤ (pos 3)) (pos 2))
unfolding on_literals
negative = refl

weight_0 : there (on point_of (codes "[2,15,0]")) ≡ Err (range (codes "$"))
unfolding on_literals
weight_0 = refl

negative_weight : there (on point_of (codes "[2,15,-1]")) ≡ Err (range (codes "$"))
unfolding on_literals
negative_weight = refl

two_numbers : there (on point_of (codes "[2,15]")) ≡ Err (form (codes "$"))
unfolding on_literals
two_numbers = refl

weight_1_0 : there (on point_of (codes "[2,15,1.0]")) ≡ Err (form (codes "$[2]"))
unfolding on_literals
weight_1_0 = refl

numbers_before_the_range : there (on point_of (codes "[2047,0,null]")) ≡ Err (form (codes "$[2]"))
unfolding on_literals
numbers_before_the_range = refl

greatest_coordinate : there (on point_of (codes "[2046,-2046,1]")) ≡ Ok tt
unfolding on_literals
greatest_coordinate = refl

coordinate_beyond : there (on point_of (codes "[0,2047,1]")) ≡ Err (range (codes "$"))
unfolding on_literals
coordinate_beyond = refl

greatest_weight : there (on point_of (codes "[1,1,2251799813685248]")) ≡ Ok tt
unfolding on_literals
greatest_weight = refl

weight_beyond : there (on point_of (codes "[2,2,4503599627370496]")) ≡ Err (range (codes "$"))
unfolding on_literals
weight_beyond = refl

least_number : there (on point_of (codes "[-9223372036854775808,0,1]")) ≡ Err (range (codes "$"))
unfolding on_literals
least_number = refl

-- ---- segments: six numbers, then the range of both points

either_order : on segment_of (codes "[5,5,1,2,4,2]") ≡ Ok (segment (spot (pos 5) (pos 5)) (spot (pos 1) (pos 2)))
unfolding on_literals
either_order = refl

six_before_the_range : there (on segment_of (codes "[0,0,0,0,0,null]")) ≡ Err (form (codes "$[5]"))
unfolding on_literals
six_before_the_range = refl

second_point_beyond : there (on segment_of (codes "[0,0,1,0,0,0]")) ≡ Err (range (codes "$"))
unfolding on_literals
second_point_beyond = refl

five_of_six : there (on segment_of (codes "[0,0,1,0,0]")) ≡ Err (form (codes "$"))
unfolding on_literals
five_of_six = refl

-- ---- certificates: exactly one of the two

path_and_chain : there (on certificate_of (codes "{\"path\":null,\"chain\":[]}")) ≡ Err (form (codes "$"))
unfolding on_literals
path_and_chain = refl

no_certificate : there (on certificate_of (codes "{}")) ≡ Err (form (codes "$"))
unfolding on_literals
no_certificate = refl

no_path : there (on certificate_of (codes "{\"path\":null}")) ≡ Err (form (codes "$.path"))
unfolding on_literals
no_path = refl

empty_path : on certificate_of (codes "{\"path\":[]}") ≡ Ok (path [])
unfolding on_literals
empty_path = refl

point_of_a_path : there (on certificate_of (codes "{\"path\":[[0,0,1],[0,0,0]]}")) ≡ Err (range (codes "$.path[1]"))
unfolding on_literals
point_of_a_path = refl

segment_of_a_chain : there (on certificate_of (codes "{\"chain\":[[0,0,1,0,0,1],[0]]}")) ≡ Err (form (codes "$.chain[1]"))
unfolding on_literals
segment_of_a_chain = refl

-- ---- documents: the members in their order, and all others passed over

-- a document by its text, and only its refusal
abbrev doc : Want → List ℕ → Read ⊤
doc want text = there (document_of text want)

-- the members up to the obstacles, and then the rest
abbrev scene : List ℕ → List ℕ
scene rest = codes "{\"format\":1,\"frame\":[0,0,9,9],\"robot\":[[0,0],[1,0],[0,1]],\"obstacles\":[]" ++ rest

no_queries : doc Plan (scene (codes "}")) ≡ Err (form (codes "$.queries"))
unfolding on_literals
no_queries = refl

a_plan : doc Plan (scene (codes ",\"queries\":[[2,2,5,5]],\"other\":7}")) ≡ Ok tt
unfolding on_literals
a_plan = refl

a_query : doc Plan (scene (codes ",\"queries\":[[2,2,5,5],[2047,2,5,5]]}")) ≡ Err (range (codes "$.queries[1][0]"))
unfolding on_literals
a_query = refl

no_rounds : doc Session (scene (codes ",\"queries\":[]}")) ≡ Err (form (codes "$.rounds"))
unfolding on_literals
no_rounds = refl

a_session : doc Session (scene (codes ",\"rounds\":[{\"edits\":[{\"remove\":1}],\"lanes\":[[[2,2,5,5]]]}]}")) ≡ Ok tt
unfolding on_literals
a_session = refl

no_query : doc Check (scene (codes ",\"certificate\":7}")) ≡ Err (form (codes "$.query"))
unfolding on_literals
no_query = refl

certificate_last : doc Check (scene (codes ",\"certificate\":7,\"query\":[2,2,5,5]}")) ≡ Err (form (codes "$.certificate"))
unfolding on_literals
certificate_last = refl

a_check : doc Check (scene (codes ",\"query\":[2,2,5,5],\"certificate\":{\"chain\":[]}}")) ≡ Ok tt
unfolding on_literals
a_check = refl

no_document : doc Plan (codes "[]") ≡ Err (form (codes "$"))
unfolding on_literals
no_document = refl

no_format : doc Plan (codes "{}") ≡ Err (form (codes "$.format"))
unfolding on_literals
no_format = refl

format_3 : doc Plan (codes "{\"format\":3}") ≡ Err (range (codes "$.format"))
unfolding on_literals
format_3 = refl

no_frame : doc Plan (codes "{\"robot\":7,\"format\":1}") ≡ Err (form (codes "$.frame"))
unfolding on_literals
no_frame = refl

no_robot : doc Plan (codes "{\"format\":1,\"frame\":[0,0,9,9],\"obstacles\":7}") ≡ Err (form (codes "$.robot"))
unfolding on_literals
no_robot = refl

no_obstacles_member : doc Plan (codes "{\"format\":1,\"frame\":[0,0,9,9],\"robot\":[[0,0],[1,0],[0,1]],\"queries\":7}") ≡ Err (form (codes "$.obstacles"))
unfolding on_literals
no_obstacles_member = refl

the_last_of_a_name : doc Plan (codes "{\"format\":1,\"format\":2}") ≡ Err (range (codes "$.format"))
unfolding on_literals
the_last_of_a_name = refl

an_open_document : doc Plan (codes "{\"format\":1") ≡ Err json
unfolding on_literals
an_open_document = refl

an_empty_document : doc Plan ([]) ≡ Err json
unfolding on_literals
an_empty_document = refl

no_text : doc Plan (34 ∷ 255 ∷ 34 ∷ []) ≡ Err json
unfolding on_literals
no_text = refl

-- ---- the texts of certificates

abbrev at : ℤ → ℤ → ℤ → Vector
at x y w = record { x = x; y = y; w = w }

text_of_a_path : certificate_text (path (spot (pos 2) (pos 2) ∷ spot (pos 5) (pos 5) ∷ [])) ≡ codes "{\"path\":[[2,2,1],[5,5,1]]}"
unfolding on_literals
text_of_a_path = refl

text_of_a_chain : certificate_text (chain (segment (at (neg_ℤ (pos 10)) (pos 0) (pos 3)) (at (pos 1) (neg_ℤ (pos 2046)) (pos 1)) ∷ [])) ≡ codes "{\"chain\":[[-10,0,3,1,-2046,1]]}"
unfolding on_literals
text_of_a_chain = refl

text_of_an_empty_path : certificate_text (path []) ≡ codes "{\"path\":[]}"
text_of_an_empty_path = refl

text_of_an_empty_chain : certificate_text (chain []) ≡ codes "{\"chain\":[]}"
text_of_an_empty_chain = refl
